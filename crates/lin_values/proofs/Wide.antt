-- Numbers of units as signed numbers of 128 bits.
use lib.IntN.{◌-ℤ◌, pos}
use mir.Syntax.{w128}
use mir.Val.{SFits, of_z, to_z}
use Rattle.std.proofs.Common.{◌≡◌, ℕ, ◌^◌, ◌<◌, arith, true, false}
use Rattle.std.proofs.lemmas.Int.{ints}
use Rattle.lin_values.specs.Value.{with_sign}

pub negated-fits : (n : ℕ) → n < 10 ^ 38 → SFits w128 (pos 0 -ℤ to_z w128 n)
negated-fits n h = omega (arith, ints)

pub negated-kept : (n : ℕ) → n < 10 ^ 38 → to_z w128 (of_z w128 (pos 0 -ℤ to_z w128 n)) ≡ with_sign true n
negated-kept n h = omega (arith, ints)

pub units-kept : (n : ℕ) → n < 10 ^ 38 → to_z w128 n ≡ with_sign false n
units-kept n h = omega (arith, ints)
