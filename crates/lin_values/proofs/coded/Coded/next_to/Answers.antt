use mir.Syntax.{w128}
use Rattle.std.proofs.Common.{◌≡◌, ap, sym, ◌∙◌, false, subst}
use Rattle.std.specs.Prelude.{ℤ, option_and_then}
use Rattle.std.specs.Option.{option_map}
use Rattle.std.proofs.lemmas.Int.{to_z-of_z}
use Rattle.lin_values.specs.Coded.{signal_at}
use Rattle.lin_values.specs.Nearest.{distance_above, distance_below, near_of, raw_decimal, signal_decimal, IsLeast}
use Rattle.lin_values.proofs.DecimalParts.{least-same}
use Rattle.lin_values.proofs.NextTo.{not-true, scalar-decimal}
use Rattle.lin_values.proofs.coded.Coded.next_to.Goals as goal

pub returns-in-Some-Some-clause-below : goal.returns-in-Some-Some-clause-below
returns-in-Some-Some-clause-below c =
    let k = c.args.self.now in
    let s = c.args.signal in
    let t = c.in-Some-Some.encoding.now in
    let e : c.in-Some-Some.known.bits ≡ (signal_at k s).bits = c.in-Some-Some.ensures.0 in
    let f : (signal_at k s).is_array ≡ false = sym c.in-Some-Some.ensures.1 ∙ not-true c.in-Some-Some.known.is_array c.if-not-known.true in
    let g = c.in-Some-Some.ensures' in
    least-same (λ n. option_and_then (distance_below c.args.sought) (raw_decimal t.items c.in-Some-Some.known.bits c.args.unit.now n))
    (λ n. option_and_then (distance_below c.args.sought) (signal_decimal k s c.args.unit.now n)) (option_map near_of c.neighbours_in.result.below)
    (λ n. ap (option_and_then (distance_below c.args.sought)) (scalar-decimal k s c.in-Some-Some.known.bits c.args.unit.now n t e f (sym g)))
    (subst (λ (z : ℤ). IsLeast (λ n. option_and_then (distance_below z) (raw_decimal t.items c.in-Some-Some.known.bits c.args.unit.now n)) (option_map near_of c.neighbours_in.result.below)) (to_z-of_z w128 c.args.sought c.ranges.sought) c.neighbours_in.ensures.below)

pub returns-in-Some-Some-clause-above : goal.returns-in-Some-Some-clause-above
returns-in-Some-Some-clause-above c =
    let k = c.args.self.now in
    let s = c.args.signal in
    let t = c.in-Some-Some.encoding.now in
    let e : c.in-Some-Some.known.bits ≡ (signal_at k s).bits = c.in-Some-Some.ensures.0 in
    let f : (signal_at k s).is_array ≡ false = sym c.in-Some-Some.ensures.1 ∙ not-true c.in-Some-Some.known.is_array c.if-not-known.true in
    let g = c.in-Some-Some.ensures' in
    least-same (λ n. option_and_then (distance_above c.args.sought) (raw_decimal t.items c.in-Some-Some.known.bits c.args.unit.now n))
    (λ n. option_and_then (distance_above c.args.sought) (signal_decimal k s c.args.unit.now n)) (option_map near_of c.neighbours_in.result.above)
    (λ n. ap (option_and_then (distance_above c.args.sought)) (scalar-decimal k s c.in-Some-Some.known.bits c.args.unit.now n t e f (sym g)))
    (subst (λ (z : ℤ). IsLeast (λ n. option_and_then (distance_above z) (raw_decimal t.items c.in-Some-Some.known.bits c.args.unit.now n)) (option_map near_of c.neighbours_in.result.above)) (to_z-of_z w128 c.args.sought c.ranges.sought) c.neighbours_in.ensures.above)
