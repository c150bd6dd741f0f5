use mir.Syntax.{w128}
use mir.Val.{of_z, to_z}
use Rattle.std.proofs.Common.{◌≡◌, ◌∙◌, subst}
use Rattle.std.specs.Prelude.{ℤ, option_and_then}
use Rattle.std.specs.Option.{option_map}
use Rattle.lin_values.specs.Nearest.{distance_above, distance_below, near_of, signal_decimal, IsLeast}
use Rattle.lin_values.specs.Value.{scaled_value}
use Rattle.lin_values.proofs.NextTo.{kept, kept-small, nearest-is, readable-small}
use Rattle.lin_values.proofs.coded.Coded.nearest.Goals as goal

pub next_to-requires : goal.next_to-requires
next_to-requires c = kept-small c.units.result (scaled_value c.args.number) c.units.ensures (readable-small c.args.number c.requires)

pub returns : goal.returns
returns c =
    let x = scaled_value c.args.number in
    let e : to_z w128 (of_z w128 c.units.result) ≡ x = kept c.units.result x c.units.ensures (readable-small c.args.number c.requires) in
    let f = c.next_to.result in
    c.nearest.ensures ∙ nearest-is c.args.self.now c.args.signal x c.args.unit.now (option_map near_of f.below) (option_map near_of f.above)
    (subst (λ (z : ℤ). IsLeast (λ n. option_and_then (distance_below z) (signal_decimal c.args.self.now c.args.signal c.args.unit.now n)) (option_map near_of f.below)) e c.next_to.ensures.below)
    (subst (λ (z : ℤ). IsLeast (λ n. option_and_then (distance_above z) (signal_decimal c.args.self.now c.args.signal c.args.unit.now n)) (option_map near_of f.above)) e c.next_to.ensures.above)
