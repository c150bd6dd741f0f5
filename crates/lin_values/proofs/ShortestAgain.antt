-- A shortest decimal is that of its value.
use Rattle.std.proofs.Common.{◌≡◌, ℕ, zero, suc, ◌+◌, ◌-◌, ◌*◌, ◌/◌, ◌%◌, ◌^◌, ◌<◌, ◌≤◌, ◌==◌, ◌&&◌, ap, sym, ◌∙◌, arith, refl, Bool, true, false, nat_lt, unsigned_abs}
use Rattle.std.specs.Int.{is_negative}
use Rattle.std.proofs.Math.Nat.{one-le-pow}
use Rattle.std.proofs.lemmas.Grind.{common_steps}
use Rattle.std.proofs.lemmas.Int.{ints}
use Rattle.lin_values.specs.Value.{decimal_of, with_sign, scaled_value, without_zeros, IsShortest}
use Rattle.lin_values.specs.declared.decimals.Decimal.{Decimal}
use Rattle.lin_values.proofs.Powers.{ten-more}
use Rattle.lin_values.proofs.ShortestDecimals.{last-kept}

more : (d k : ℕ) → d * 10 ^ suc k ≡ (d * 10 ^ k) * 10
more d k = let e : suc k ≡ k + 1 = omega arith in omega (arith, ap (λ x. d * x) (ap (λ i. 10 ^ i) e ∙ ten-more k))

tens-end : (n : ℕ) → ((n * 10) % 10 == 0) ≡ true
tens-end n = grind (arith, common_steps)

-- zeros behind the digits are dropped
pub zeros-behind : (k p d : ℕ) → (0 < p → 0 < d % 10) → without_zeros (d * 10 ^ k) (k + p) ≡ (d, p)
zeros-behind zero zero d h = let e : d * 10 ^ 0 ≡ d = omega arith in rw e refl
zeros-behind zero (suc p) d h = let e : d * 10 ^ 0 ≡ d = omega arith in let z : 0 + suc p ≡ suc p = omega arith in rw (e, z) (last-kept d (suc p) (h (omega arith)))
zeros-behind (suc k) p d h =
    let z : suc k + p ≡ suc (k + p) = omega arith in
    let q : (d * 10 ^ k) * 10 / 10 ≡ d * 10 ^ k = omega arith in
    rw (z, more d k, tens-end (d * 10 ^ k), q) (zeros-behind k p d h)

pub size-of : (b : Bool) (n : ℕ) → unsigned_abs (with_sign b n) ≡ n
size-of false n = omega (arith, ints)
size-of true n = omega (arith, ints)

minus-of : (b : Bool) (n : ℕ) → is_negative (with_sign b n) ≡ b && nat_lt 0 n
minus-of false n = grind (arith, ints, common_steps)
minus-of true n = grind (arith, ints, common_steps)

minus-kept : (b : Bool) (n : ℕ) → (b ≡ true → 0 < n) → (b && nat_lt 0 n) && nat_lt 0 n ≡ b
minus-kept false n h = refl
minus-kept true n h = let s : 0 < n = h refl in grind (arith, common_steps)

some-left : (d k : ℕ) → 0 < d → 0 < d * 10 ^ k
some-left d k h = grind (arith, one-le-pow k 10 (omega arith))

pub decimal-again : (d : Decimal) → d.places ≤ 24 → IsShortest d → decimal_of (scaled_value d) ≡ d
decimal-again d r s =
    let n = d.digits * 10 ^ (24 - d.places) in
    let whole : (24 - d.places) + d.places ≡ 24 = omega (arith, r) in
    let e : without_zeros (d.digits * 10 ^ (24 - d.places)) 24 ≡ (d.digits, d.places) = ap (λ k. without_zeros (d.digits * 10 ^ (24 - d.places)) k) (sym whole) ∙ zeros-behind (24 - d.places) d.places d.digits s.0 in
    rw (minus-of d.negative n, size-of d.negative n, e)
    (ap (λ b. let x : Decimal = record { negative = b; digits = d.digits; places = d.places } in x) (minus-kept d.negative n (λ m. some-left d.digits (24 - d.places) (s.1 m))))
