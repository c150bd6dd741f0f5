use Rattle.std.proofs.Common.{refl, inl}
use Rattle.lin_cluster.proofs.FindingsPlaces.{taken_by_bits, taken_by_none}
use Rattle.lin_cluster.proofs.findings.overlaps.is_taken.Goals as goal

pub returns-then-twice : goal.returns-then-twice
returns-then-twice c = (λ e. inl c.if-twice.true, λ t. refl)

pub returns-then-size-gt0 : goal.returns-then-size-gt0
returns-then-size-gt0 c =
    taken_by_bits c.args.twice c.args.ranges.now c.args.placed.now c.args.size c.from-start.result c.from-size.result c.is_met.result
    c.if-twice.false c.from-start.ensures c.from-size.ensures c.if-size-gt0.true c.is_met.ensures

pub returns-else-size-gt0 : goal.returns-else-size-gt0
returns-else-size-gt0 c =
    taken_by_none c.args.twice c.args.ranges.now c.args.placed.now c.args.size c.from-size.result
    c.if-twice.false c.from-size.ensures c.if-size-gt0.false
