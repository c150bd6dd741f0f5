use Rattle.std.proofs.Common.{◌<◌, arith}
use Rattle.std.specs.Prelude.{◌==◌, ◌&&◌, slice_index}
use Rattle.lin_sections.specs.Moved.{is_below}
use Rattle.lin_sections.proofs.MovedChains.{number-found, number-not-found}
use Rattle.lin_sections.proofs.diff.chain.link.Goals as goal

pub returns-then-is_below-clause-found : goal.returns-then-is_below-clause-found
returns-then-is_below-clause-found c =
    let lt : c.loop-number.number < c.args.count = omega arith in
    number-found (λ i. slice_index c.args.lengths.now i == c.args.links && is_below (slice_index c.args.places.now i) c.args.end)
    c.args.count c.loop-number.number lt (λ k before. c.loop-number.invariant k before (omega arith))
    (grind (arith, c.if-lengths-number.true, c.is_below.ensures, c.if-is_below.true))

pub returns-clause-found : goal.returns-clause-found
returns-clause-found c =
    number-not-found (λ i. slice_index c.args.lengths.now i == c.args.links && is_below (slice_index c.args.places.now i) c.args.end)
    c.args.count (λ k lt. c.loop-number.invariant k (omega arith) lt)
