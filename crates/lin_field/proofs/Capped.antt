-- Adding a digit to a value that stops at the limit of 64 bits.
use Rattle.std.proofs.Common.{◌≡◌, ℕ, ◌+◌, ◌*◌, ◌^◌, arith}
use Rattle.std.specs.Prelude.{min}
use Rattle.lin_ldf.proofs.Capped.{decimal_more, hex_more}

pub capped_decimal : (a x : ℕ) → min (10 * min a (2 ^ 64) + x) (2 ^ 64) ≡ min (10 * a + x) (2 ^ 64)
capped_decimal a x = omega arith

pub capped_hex : (a x : ℕ) → min (16 * min a (2 ^ 64) + x) (2 ^ 64) ≡ min (16 * a + x) (2 ^ 64)
capped_hex a x = omega arith

pub ruleset capping = (capped_decimal, capped_hex, decimal_more, hex_more)
