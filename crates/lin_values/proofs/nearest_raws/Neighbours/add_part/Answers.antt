use mir.Syntax.{w128}
use mir.Val.{of_z, to_z}
use Rattle.std.proofs.Common.{◌≡◌, ◌∙◌, ap, sym, arith, true}
use Rattle.std.specs.Prelude.{None, Some, option_and_then}
use Rattle.std.specs.Option.{option_map}
use Rattle.std.proofs.lemmas.Int.{to_z-of_z}
use Rattle.lin_values.specs.Layers.{common_span}
use Rattle.lin_values.specs.Nearest.{distance_above, distance_below, near_of, numbered_decimal}
use Rattle.lin_values.specs.Raws.{has_unit}
use Rattle.lin_values.specs.Warnings.{greatest_raw}
use Rattle.lin_values.proofs.DecimalParts.{none-above, none-common, nothing-added, range-step, up_to}
use Rattle.lin_values.proofs.nearest_raws.Neighbours.add_part.Goals as goal

pub returns-clause-below : goal.returns-clause-below
returns-clause-below c =
    let s = c.args.part.now.span in
    let m = greatest_raw c.args.signal.bits in
    let u : has_unit c.args.unit.now c.in-Some-as_range.range.unit.now ≡ true = first_of (cc, grind arith) in
    let k : common_span s (up_to m) ≡ common_span s (up_to c.most_of.result) = ap (λ n. common_span s (up_to n)) (sym c.most_of.ensures) in
    let t : common_span s (up_to m) ≡ Some c.in-Some-common.span = cc in
    range-step distance_below c.args.sought (to_z w128 (of_z w128 c.args.sought)) c.args.encoding.now.items c.args.signal.bits c.args.unit.now c.args.part.now c.in-Some.item.now c.in-Some-as_range.range c.in-Some-common.span
    (option_map near_of c.args.self.now.below) (option_map near_of c.add_range.new.self.below)
    (to_z-of_z w128 c.args.sought c.ranges.sought) (sym c.in-Some.ensures) (sym c.in-Some-as_range.ensures) u t c.add_range.ensures.below

pub returns-clause-above : goal.returns-clause-above
returns-clause-above c =
    let s = c.args.part.now.span in
    let m = greatest_raw c.args.signal.bits in
    let u : has_unit c.args.unit.now c.in-Some-as_range.range.unit.now ≡ true = first_of (cc, grind arith) in
    let k : common_span s (up_to m) ≡ common_span s (up_to c.most_of.result) = ap (λ n. common_span s (up_to n)) (sym c.most_of.ensures) in
    let t : common_span s (up_to m) ≡ Some c.in-Some-common.span = cc in
    range-step distance_above c.args.sought (to_z w128 (of_z w128 c.args.sought)) c.args.encoding.now.items c.args.signal.bits c.args.unit.now c.args.part.now c.in-Some.item.now c.in-Some-as_range.range c.in-Some-common.span
    (option_map near_of c.args.self.now.above) (option_map near_of c.add_range.new.self.above)
    (to_z-of_z w128 c.args.sought c.ranges.sought) (sym c.in-Some.ensures) (sym c.in-Some-as_range.ensures) u t c.add_range.ensures.above

pub returns-in_default-common-clause-below : goal.returns-in_default-common-clause-below
returns-in_default-common-clause-below c = λ f g x l.
    let s = c.args.part.now.span in
    let m = greatest_raw c.args.signal.bits in
    let apart : common_span s (up_to m) ≡ None = ap (λ k. common_span s (up_to k)) (sym (c.from.ensures ∙ c.most_of.ensures)) ∙ sym c.in_default-common.ensures in
    let items = c.args.encoding.now.items in
    let unit = c.args.unit.now in
    nothing-added s (λ n. option_and_then (distance_below c.args.sought) (numbered_decimal items c.args.signal.bits unit (Some c.args.part.now.item) n)) f g (option_map near_of c.args.self.now.below)
    (λ n i. none-above (distance_below c.args.sought) items c.args.signal.bits unit (Some c.args.part.now.item) n (none-common s m n apart i)) x l

pub returns-in_default-common-clause-above : goal.returns-in_default-common-clause-above
returns-in_default-common-clause-above c = λ f g x l.
    let s = c.args.part.now.span in
    let m = greatest_raw c.args.signal.bits in
    let apart : common_span s (up_to m) ≡ None = ap (λ k. common_span s (up_to k)) (sym (c.from.ensures ∙ c.most_of.ensures)) ∙ sym c.in_default-common.ensures in
    let items = c.args.encoding.now.items in
    let unit = c.args.unit.now in
    nothing-added s (λ n. option_and_then (distance_above c.args.sought) (numbered_decimal items c.args.signal.bits unit (Some c.args.part.now.item) n)) f g (option_map near_of c.args.self.now.above)
    (λ n i. none-above (distance_above c.args.sought) items c.args.signal.bits unit (Some c.args.part.now.item) n (none-common s m n apart i)) x l
