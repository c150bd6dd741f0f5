use lib.IntN.{pos}
use mir.Syntax.{w128}
use mir.Val.{of_z, to_z}
use Rattle.std.proofs.Common.{◌≡◌, ap}
use Rattle.std.specs.Prelude.{int_lt}
use Rattle.std.proofs.lemmas.Int.{to_z-of_z}
use Rattle.lin_values.proofs.Reaching.{next-by, same-side}
use Rattle.lin_values.proofs.nearest_raws.around.Goals as goal

pub returns-clause-next : goal.returns-clause-next
returns-clause-next c = λ n h.
    let e : to_z w128 (of_z w128 c.args.scale) ≡ c.args.scale = to_z-of_z w128 c.args.scale c.ranges.scale in
    let f : to_z w128 (of_z w128 c.args.distance) ≡ c.args.distance = to_z-of_z w128 c.args.distance c.ranges.distance in
    next-by c.args.scale c.args.distance c.args.span n c.unsigned_abs.result c.unsigned_abs-2.result c.clamp.result c.clamp-2.result c.from-from.result c.from-to.result
    (λ z. c.if-scale-eq0.false (ap (of_z w128) z))
    (same-side (int_lt c.args.scale (pos 0)) (int_lt c.args.distance (pos 0)) (rw (e, f) at c.if-scale-distance.false))
    (rw f at c.unsigned_abs.ensures.value) (rw e at c.unsigned_abs-2.ensures.value) c.from-from.ensures c.from-to.ensures c.clamp.ensures c.clamp-2.ensures h
