-- Quotients that are rounded up.
use Rattle.std.proofs.Common.{◌≡◌, ℕ, ◌+◌, ◌-◌, ◌*◌, ◌/◌, ◌%◌, ◌<◌, ◌≤◌, suc, sym, arith}
use Rattle.std.specs.Prelude.{min}
use Rattle.std.specs.Int.{div_ceil}
use Rattle.std.proofs.Math.Nat.{div-eq_of_lt-le, suc-mul}
use Rattle.std.proofs.lemmas.Grind.{div_ceil_times}

-- with a rounding term in the dividend
pub rounded-quotient : (x y : ℕ) → 0 < y → div_ceil x y ≡ (x + (y - 1)) / y
rounded-quotient x y some =
    let d : ℕ = x / y + min 1 (x % y) in
    let bounds = div_ceil_times x y some in
    let least : d * y ≤ x + (y - 1) = omega (arith, bounds.0, bounds.1) in
    let next : suc d * y ≡ d * y + y = suc-mul d y in
    let one_more : d + 1 ≡ suc d = omega arith in
    let most : x + (y - 1) < (d + 1) * y = rw (one_more, next) (omega (arith, bounds.0, bounds.1)) in
    sym (div-eq_of_lt-le y least most)
