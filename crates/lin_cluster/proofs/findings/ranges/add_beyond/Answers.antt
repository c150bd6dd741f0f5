use Rattle.std.proofs.lemmas.Result.{on_ok_weaker}
use Rattle.lin_cluster.proofs.FindingsBits.{beyond}
use Rattle.lin_cluster.specs.FindingsRanges.{HasFar}
use Rattle.lin_cluster.proofs.findings.ranges.add_beyond.Goals as goal

pub returns-clause-bits : goal.returns-clause-bits
returns-clause-bits c = on_ok_weaker c.add_far.result (λ bits a b ab.
    beyond a b c.args.start c.args.end c.max.result (HasFar c.args.ranges.now a b) (HasFar c.add_far.new.ranges a b) c.max.ensures c.if-end-le64.false (bits a b ab))
    c.add_far.ensures.bits
