use Rattle.lin_cluster.proofs.FindingsRanges.{apart_with, covered_with}
use Rattle.lin_cluster.proofs.findings.ranges.add.Goals as goal

pub returns-clause-apart : goal.returns-clause-apart
returns-clause-apart c =
    apart_with c.merged-first.new.ranges c.insert.new.self c.merged-first.result.0 c.merged-first.result.1 c.in_ok-insert.ensures.updates.0 c.merged-first.ensures.some c.merged-first.ensures.free c.merged-first.ensures.apart

pub returns-clause-meets : goal.returns-clause-meets
returns-clause-meets c = λ a b ab.
    let with = covered_with c.merged-first.new.ranges c.insert.new.self c.merged-first.result.0 c.merged-first.result.1 a b c.in_ok-insert.ensures.updates.0 c.merged-first.ensures.some c.merged-first.ensures.free c.merged-first.ensures.apart in
    let same = c.merged-first.ensures.same a b ab in
    (λ met. same.0 (with.0 met), λ covers. with.1 (same.1 covers))
