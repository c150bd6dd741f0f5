use mir.Syntax.{w128}
use mir.Val.{of_z, to_z}
use Rattle.std.proofs.Common.{arith, refl, subst}
use Rattle.std.specs.Prelude.{ℤ, option_and_then}
use Rattle.std.specs.Option.{option_map}
use Rattle.std.proofs.lemmas.Int.{to_z-of_z}
use Rattle.lin_values.specs.Nearest.{distance_above, distance_below, near_of, raw_decimal, IsLeast}
use Rattle.lin_values.proofs.DecimalParts.{all-parts, part-step}
use Rattle.lin_values.proofs.nearest_raws.neighbours_in.Goals as goal

pub loop-part-preserved : goal.loop-part-preserved
loop-part-preserved c = record {
  ordered = c.loop-part.invariant.ordered;
  found = c.loop-part.invariant.found;
  below = part-step distance_below (to_z w128 (of_z w128 c.args.sought)) (to_z w128 (of_z w128 c.args.sought)) c.args.encoding.now.items c.args.signal.bits c.args.unit.now c.parts-part-items.result.now c.loop-part.part-index _
      (option_map near_of c.loop-part.found.below) (option_map near_of c.add_part.new.self.below)
      refl c.parts-part-items.ensures.ordered (omega arith) c.add_part.ensures.below c.loop-part.invariant.below;
  above = part-step distance_above (to_z w128 (of_z w128 c.args.sought)) (to_z w128 (of_z w128 c.args.sought)) c.args.encoding.now.items c.args.signal.bits c.args.unit.now c.parts-part-items.result.now c.loop-part.part-index _
      (option_map near_of c.loop-part.found.above) (option_map near_of c.add_part.new.self.above)
      refl c.parts-part-items.ensures.ordered (omega arith) c.add_part.ensures.above c.loop-part.invariant.above;
}

pub returns-clause-below : goal.returns-clause-below
returns-clause-below c =
    subst (λ (z : ℤ). IsLeast (λ n. option_and_then (distance_below z) (raw_decimal c.args.encoding.now.items c.args.signal.bits c.args.unit.now n)) (option_map near_of c.loop-part.found.below)) (to_z-of_z w128 c.args.sought c.ranges.sought)
    (all-parts (distance_below (to_z w128 (of_z w128 c.args.sought))) c.args.encoding.now.items c.args.signal.bits c.args.unit.now c.parts-part-items.result.now c.loop-part.part-index (option_map near_of c.loop-part.found.below)
    (omega arith) (λ raw h. c.parts-part-items.ensures.found raw (omega (arith, h))) c.loop-part.invariant.below)

pub returns-clause-above : goal.returns-clause-above
returns-clause-above c =
    subst (λ (z : ℤ). IsLeast (λ n. option_and_then (distance_above z) (raw_decimal c.args.encoding.now.items c.args.signal.bits c.args.unit.now n)) (option_map near_of c.loop-part.found.above)) (to_z-of_z w128 c.args.sought c.ranges.sought)
    (all-parts (distance_above (to_z w128 (of_z w128 c.args.sought))) c.args.encoding.now.items c.args.signal.bits c.args.unit.now c.parts-part-items.result.now c.loop-part.part-index (option_map near_of c.loop-part.found.above)
    (omega arith) (λ raw h. c.parts-part-items.ensures.found raw (omega (arith, h))) c.loop-part.invariant.above)
