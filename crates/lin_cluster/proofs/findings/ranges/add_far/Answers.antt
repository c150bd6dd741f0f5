use Rattle.lin_cluster.proofs.FindingsRanges.{put_away}
use Rattle.lin_cluster.proofs.findings.ranges.add_far.Goals as goal

pub returns-clause-bits : goal.returns-clause-bits
returns-clause-bits c = λ a b ab.
    put_away c.args.ranges.now.others c.add.new.ranges c.args.ranges.now.first c.args.ranges.now.after c.args.start c.args.end a b
    (c.in_ok-add.ensures.meets a b ab)
