-- Sums of numbers with signs.
use lib.IntN.{ℤ, ◌+ℤ◌, pos}
use Rattle.std.proofs.Common.{◌≡◌, ℕ, zero, suc, ◌+◌, ◌*◌, arith, refl, Bool, true, false}
use Rattle.std.proofs.lemmas.Int.{ints}
use Rattle.lin_values.specs.Value.{with_sign}

signed-plus : (b : Bool) (m n : ℕ) → with_sign b (m + n) ≡ with_sign b m +ℤ with_sign b n
signed-plus false m n = omega (arith, ints)
signed-plus true m n = omega (arith, ints)

one-more : (n t : ℕ) → n * suc t ≡ n * t + n
one-more n t = omega arith

crossed : (a b c d : ℤ) → (a +ℤ b) +ℤ (c +ℤ d) ≡ (a +ℤ c) +ℤ (b +ℤ d)
crossed a b c d = omega (arith, ints)

signed-nothing : (b : Bool) (n : ℕ) → with_sign b (n * 0) ≡ pos 0
signed-nothing false n = omega (arith, ints)
signed-nothing true n = omega (arith, ints)

nothing-twice : pos 0 ≡ pos 0 +ℤ pos 0
nothing-twice = refl

-- a sum, each part times t
pub scaled-sum : (a b c : Bool) (x y n t : ℕ) → with_sign c n ≡ with_sign a x +ℤ with_sign b y
    → with_sign c (n * t) ≡ with_sign a (x * t) +ℤ with_sign b (y * t)
scaled-sum a b c x y n zero e = rw (signed-nothing c n, signed-nothing a x, signed-nothing b y) refl
scaled-sum a b c x y n (suc t) e =
    rw (one-more n t, one-more x t, one-more y t)
    (rw (signed-plus c (n * t) n, signed-plus a (x * t) x, signed-plus b (y * t) y)
    (rw (scaled-sum a b c x y n t e, e) (crossed (with_sign a (x * t)) (with_sign b (y * t)) (with_sign a x) (with_sign b y))))
