use mir.Syntax.{w128}
use mir.Val.{of_z, to_z}
use Rattle.std.proofs.Common.{◌≡◌, ◌<◌, ◌^◌, subst}
use Rattle.std.specs.Prelude.{unsigned_abs, ℤ}
use Rattle.std.specs.Option.{option_map}
use Rattle.std.proofs.lemmas.Int.{to_z-of_z}
use Rattle.lin_values.specs.Nearest.{distance_above, distance_below, near_of}
use Rattle.lin_values.specs.Value.{scaled_value}
use Rattle.lin_values.proofs.RangeAdded.{range-added}
use Rattle.lin_values.proofs.Sides.{distance-kept, reached-above, reached-below, small-kept}
use Rattle.lin_values.proofs.nearest_raws.Neighbours.add_range.Goals as goal

pub returns-clause-below : goal.returns-clause-below
returns-clause-below c = λ f g x l.
    let r = c.args.range.now in
    let ko : unsigned_abs (scaled_value r.offset) < 10 ^ 33 = subst (λ (z : ℤ). unsigned_abs z < 10 ^ 33) c.units.ensures.same c.units.ensures.small in
    let ks : unsigned_abs (scaled_value r.scale) < 10 ^ 33 = subst (λ (z : ℤ). unsigned_abs z < 10 ^ 33) c.units-2.ensures.same c.units-2.ensures.small in
    let kx : to_z w128 (of_z w128 c.args.sought) ≡ c.args.sought = to_z-of_z w128 c.args.sought c.ranges.sought in
    let eo : to_z w128 (of_z w128 c.units.result) ≡ scaled_value r.offset = small-kept c.units.result (scaled_value r.offset) c.units.ensures.same ko in
    let es : to_z w128 (of_z w128 c.units-2.result) ≡ scaled_value r.scale = small-kept c.units-2.result (scaled_value r.scale) c.units-2.ensures.same ks in
    range-added distance_below reached-below r c.args.span c.args.sought (to_z w128 (of_z w128 c.args.sought))
    (to_z w128 (of_z w128 c.units-2.result)) (to_z w128 (of_z w128 c.difference-distance.result))
    c.around-first.result.0 c.around-first.result.1
    (option_map near_of c.args.self.now.below) (option_map near_of c.add_raw.new.self.below) (option_map near_of c.add_raw-2.new.self.below)
    f g kx es
    (distance-kept c.args.sought (scaled_value r.offset) c.difference-distance.result c.units.result kx eo c.requires.wide ko c.difference-distance.ensures)
    c.around-first.ensures.first c.around-first.ensures.second c.around-first.ensures.order c.around-first.ensures.next
    c.add_raw.ensures.below c.add_raw-2.ensures.below x l

pub returns-clause-above : goal.returns-clause-above
returns-clause-above c = λ f g x l.
    let r = c.args.range.now in
    let ko : unsigned_abs (scaled_value r.offset) < 10 ^ 33 = subst (λ (z : ℤ). unsigned_abs z < 10 ^ 33) c.units.ensures.same c.units.ensures.small in
    let ks : unsigned_abs (scaled_value r.scale) < 10 ^ 33 = subst (λ (z : ℤ). unsigned_abs z < 10 ^ 33) c.units-2.ensures.same c.units-2.ensures.small in
    let kx : to_z w128 (of_z w128 c.args.sought) ≡ c.args.sought = to_z-of_z w128 c.args.sought c.ranges.sought in
    let eo : to_z w128 (of_z w128 c.units.result) ≡ scaled_value r.offset = small-kept c.units.result (scaled_value r.offset) c.units.ensures.same ko in
    let es : to_z w128 (of_z w128 c.units-2.result) ≡ scaled_value r.scale = small-kept c.units-2.result (scaled_value r.scale) c.units-2.ensures.same ks in
    range-added distance_above reached-above r c.args.span c.args.sought (to_z w128 (of_z w128 c.args.sought))
    (to_z w128 (of_z w128 c.units-2.result)) (to_z w128 (of_z w128 c.difference-distance.result))
    c.around-first.result.0 c.around-first.result.1
    (option_map near_of c.args.self.now.above) (option_map near_of c.add_raw.new.self.above) (option_map near_of c.add_raw-2.new.self.above)
    f g kx es
    (distance-kept c.args.sought (scaled_value r.offset) c.difference-distance.result c.units.result kx eo c.requires.wide ko c.difference-distance.ensures)
    c.around-first.ensures.first c.around-first.ensures.second c.around-first.ensures.order c.around-first.ensures.next
    c.add_raw.ensures.above c.add_raw-2.ensures.above x l
