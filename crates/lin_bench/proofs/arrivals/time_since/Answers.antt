use Rattle.std.proofs.Common.{◌≡◌, ◌∙◌, sym, ap, arith, reverse, take}
use Rattle.lin_bench.specs.Arrivals.{precedes, whole}
use Rattle.lin_bench.proofs.Walks.{at-first, over, walked}
use Rattle.lin_bench.proofs.arrivals.time_since.Goals as goal

pub returns-else-not-is_over : goal.returns-else-not-is_over
returns-else-not-is_over c e is =
    let at = c.loop-left in
    let es = c.args.log.now.entries in
    walked c.args.cluster.now (precedes c.args.earlier) es c.args.index at.left c.entry.result.now e c.before-walk.result at.walk c.requires.within c.entry.ensures is
    c.before-walk.ensures.walk at.invariant.whole
    (over c.args.cluster.now (precedes c.args.earlier) at.walk (reverse (take at.left es)) (sym c.is_over.ensures ∙ c.if-not-is_over.false))

pub returns-after-loop-left : goal.returns-after-loop-left
returns-after-loop-left c e is =
    let at = c.loop-left in
    let es = c.args.log.now.entries in
    let none : at.left ≡ 0 = omega (arith, c.loop-left-test.false) in
    walked c.args.cluster.now (precedes c.args.earlier) es c.args.index at.left c.entry.result.now e c.before-walk.result at.walk c.requires.within c.entry.ensures is
    c.before-walk.ensures.walk at.invariant.whole
    (ap (λ n. whole c.args.cluster.now (precedes c.args.earlier) at.walk (reverse (take n es))) none ∙ at-first c.args.cluster.now (precedes c.args.earlier) at.walk)
