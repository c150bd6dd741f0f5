use Rattle.std.proofs.Common.{sym, subst, refl}
use Rattle.std.specs.Option.{IsSome}
use Rattle.std.proofs.lemmas.Map.Keys.{ge_from_not_lt}
use Rattle.lin_cluster.proofs.FindingsRanges.{below_from_less, less_from_below}
use Rattle.lin_cluster.proofs.findings.ranges.last_below.Goals as goal

pub returns-in-Some-clause-some : goal.returns-in-Some-clause-some
returns-in-Some-clause-some c =
    let all = c.range.ensures.in_range tt in
    let here = all.3 _ _ c.in-Some.ensures.steps in
    let most = all.4 _ _ c.in-Some.ensures.steps in
    (here.1, below_from_less _ _ here.0.1, λ k e is below. ge_from_not_lt _ _ (most k (tt, less_from_below _ _ below) (subst IsSome (sym is) refl)))
