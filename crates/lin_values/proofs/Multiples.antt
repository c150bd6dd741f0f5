-- Whole numbers n with n * step from one number to another.
use Rattle.std.proofs.Common.{◌≡◌, ℕ, ◌+◌, ◌*◌, ◌/◌, ◌%◌, ◌<◌, ◌≤◌, sym, ◌∙◌, arith, refl, Bool, true, false, nat_lt, nat_le, min, not}
use Rattle.std.proofs.Math.Nat.{mul-le-mul_right}
use Rattle.std.proofs.lemmas.Grind.{common_steps, div_ceil_times}

below-is : (a b : ℕ) → a < b → nat_lt a b ≡ true
below-is a b h = grind (arith, common_steps)

above-is : (a b : ℕ) → b ≤ a → nat_lt a b ≡ false
above-is a b h = grind (arith, common_steps)

by-order : (b : Bool) (n q a m : ℕ) → nat_lt n q ≡ b → (n < q → a < m) → (q ≤ n → m ≤ a) → nat_lt n q ≡ nat_lt a m
by-order true n q a m e f g = e ∙ sym (below-is a m (f (grind (arith, common_steps))))
by-order false n q a m e f g = e ∙ sym (above-is a m (g (grind (arith, common_steps))))

pub first-is : (n step m : ℕ) → 0 < step → nat_lt n (m / step + min 1 (m % step)) ≡ nat_lt (n * step) m
first-is n step m h =
    let q = m / step + min 1 (m % step) in
    let t = div_ceil_times m step h in
    by-order (nat_lt n q) n q (n * step) m refl
    (λ l. let k : (n + 1) * step ≤ q * step = mul-le-mul_right step (let j : n + 1 ≤ q = omega arith in j) in omega (arith, k, t.0, t.1))
    (λ l. let k : q * step ≤ n * step = mul-le-mul_right step l in omega (arith, k, t.0, t.1))

pub not-below : (a b : ℕ) → not (nat_lt a b) ≡ nat_le b a
not-below a b = grind (arith, common_steps)
