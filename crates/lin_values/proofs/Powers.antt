-- Powers of ten.
use lib.IntN.{◌*ℤ◌, pos}
use Rattle.std.proofs.Common.{Bool, true, false, zero, ◌∷◌, [], ◌++◌, refl, inl, inr, eq-zero-or-pos, nat_lt}
use Rattle.std.proofs.lemmas.Bool.{cases_Bool, lt-ltb, ltb-true, ltb-false}
use Rattle.lin_values.specs.Shown.{last_digits, fraction}
use Rattle.std.proofs.Math.IntN.{pos-*ℤ-negsuc}
use Rattle.std.proofs.lemmas.Int.{ints}
use Rattle.lin_values.specs.Value.{with_sign}
use Rattle.std.proofs.Common.{◌≡◌, ℕ, suc, ◌+◌, ◌-◌, ◌*◌, ◌/◌, ◌%◌, ◌^◌, ◌<◌, ◌≤◌, ap, sym, ◌∙◌, arith}
use Rattle.std.proofs.Math.Nat.{pow-le-pow_right, mul-le-mul_right, mul-le-mul_left, mul_assoc, one-le-pow}
use Rattle.std.proofs.lemmas.Nat.{pow-add, div_below, mod_below}

-- one factor more
pub ten-more : (k : ℕ) → 10 ^ (k + 1) ≡ 10 * 10 ^ k
ten-more k = omega (arith, pow-add 10 k 1)

pub ten-below : (i k : ℕ) → i ≤ k → 10 ^ i ≤ 10 ^ k
ten-below i k h = pow-le-pow_right (omega arith) h

-- some of the factors that are left
pub factors-taken : (p left j k : ℕ) → p * 10 ^ left ≡ 10 ^ k → j ≤ left → (p * 10 ^ j) * 10 ^ (left - j) ≡ 10 ^ k
factors-taken p left j k e l =
    let whole : j + (left - j) ≡ left = omega arith in
    mul_assoc p (10 ^ j) (10 ^ (left - j)) ∙ ap (λ x. p * x) (sym (pow-add 10 j (left - j)) ∙ ap (λ i. 10 ^ i) whole) ∙ e

pub factors-below : (p left j k : ℕ) → p * 10 ^ left ≡ 10 ^ k → j ≤ left → k ≤ 33 → p * 10 ^ j ≤ 10 ^ 33
factors-below p left j k e l h =
    omega (arith, e, mul-le-mul_left p (ten-below j left l), ten-below k 33 h)

-- a zero at the end dropped, and a place with it
pub dropped-zero : (n u p : ℕ) → n * 10 ^ (24 - p) ≡ u → 0 < p → p ≤ 24 → n % 10 ≡ 0 → (n / 10) * 10 ^ (24 - (p - 1)) ≡ u
dropped-zero n u p e h l z =
    let more : 24 - (p - 1) ≡ (24 - p) + 1 = omega arith in
    let tens : n ≡ 10 * (n / 10) = omega arith in
    rw (more, ten-more (24 - p)) (omega (arith, e, ap (λ x. x * 10 ^ (24 - p)) tens))

-- eight zeros at the end dropped, and eight places with them
pub dropped-eight : (n u p : ℕ) → n * 10 ^ (24 - p) ≡ u → 8 ≤ p → p ≤ 24 → n % 100000000 ≡ 0 → (n / 100000000) * 10 ^ (24 - (p - 8)) ≡ u
dropped-eight n u p e h l z =
    let more : 24 - (p - 8) ≡ (24 - p) + 8 = omega arith in
    let tens : n ≡ 100000000 * (n / 100000000) = omega arith in
    rw (more, pow-add 10 (24 - p) 8) (omega (arith, e, ap (λ x. x * 10 ^ (24 - p)) tens))

-- fewer than 10 ^ 9 wholes are fewer than 10 ^ 33 units
mul-lt-mul_right-of : {c a b : ℕ} → 0 < c → a < b → a * c < b * c
mul-lt-mul_right-of {c} {a} {b} g h = omega (arith, mul-le-mul_right c h)

pub signed-times : (b : Bool) (r n : ℕ) → pos r *ℤ with_sign b n ≡ with_sign b (r * n)
signed-times false r n = grind (arith, ints)
signed-times true r zero = let z : r * 0 ≡ 0 = omega arith in rw z refl
signed-times true r (suc n) = pos-*ℤ-negsuc r n

pub units-below : (d p : ℕ) → p ≤ 24 → d < 10 ^ (9 + p) → d * 10 ^ (24 - p) < 10 ^ 33
units-below d p l h =
    let whole : (9 + p) + (24 - p) ≡ 33 = omega arith in
    let e : 10 ^ 33 ≡ 10 ^ (9 + p) * 10 ^ (24 - p) = ap (λ k. 10 ^ k) (sym whole) ∙ pow-add 10 (9 + p) (24 - p) in
    let g : 0 < 10 ^ (24 - p) = one-le-pow (24 - p) 10 (omega arith) in
    rw e (mul-lt-mul_right-of g h)

-- a digit is cut off
pub first-digit : (k n : ℕ) → n < 10 ^ (k + 1) → n / 10 ^ k < 10
first-digit k n h = div_below n (10 ^ k) 10 (one-le-pow k 10 (omega arith)) (omega (arith, ten-more k))

pub rest-below : (k n : ℕ) → n % 10 ^ k < 10 ^ k
rest-below k n = mod_below n (10 ^ k) (one-le-pow k 10 (omega arith))

pub digits-step : (left n : ℕ) → 0 < left → last_digits left n ≡ (48 + n / 10 ^ (left - 1)) ∷ last_digits (left - 1) (n % 10 ^ (left - 1))
digits-step zero n h = absurd (omega arith)
digits-step (suc k) n h = let e : suc k - 1 ≡ k = omega arith in rw e refl

pub limits-from_units : (d p u : ℕ) → p ≤ 24 → d * 10 ^ (24 - p) ≡ u → u < 10 ^ 33 → d < 10 ^ (9 + p)
limits-from_units d p u l e h =
    let whole : (9 + p) + (24 - p) ≡ 33 = omega arith in
    let tens : 10 ^ 33 ≡ 10 ^ (9 + p) * 10 ^ (24 - p) = ap (λ k. 10 ^ k) (sym whole) ∙ pow-add 10 (9 + p) (24 - p) in
    elim (eq-zero-or-pos ((d + 1) - 10 ^ (9 + p))) [
      | inl z ↦ omega arith
      | inr g ↦ absurd (omega (arith, tens, mul-le-mul_right {m = 10 ^ (9 + p)} {n = d} (10 ^ (24 - p)) (omega arith)))
    ]

-- the same of the larger limit
pub readable-from_units : (d p u : ℕ) → p ≤ 24 → d * 10 ^ (24 - p) ≡ u → u < 10 ^ 38 → d < 10 ^ (14 + p)
readable-from_units d p u l e h =
    let whole : (14 + p) + (24 - p) ≡ 38 = omega arith in
    let tens : 10 ^ 38 ≡ 10 ^ (14 + p) * 10 ^ (24 - p) = ap (λ k. 10 ^ k) (sym whole) ∙ pow-add 10 (14 + p) (24 - p) in
    elim (eq-zero-or-pos ((d + 1) - 10 ^ (14 + p))) [
      | inl z ↦ omega arith
      | inr g ↦ absurd (omega (arith, tens, mul-le-mul_right {m = 10 ^ (14 + p)} {n = d} (10 ^ (24 - p)) (omega arith)))
    ]

-- fewer than 10 ^ 9 wholes are fewer than 10 ^ (9 + q) parts of 10 ^ -q
pub digits-below : (d p q : ℕ) → p ≤ q → d < 10 ^ (9 + p) → d * 10 ^ (q - p) < 10 ^ (9 + q)
digits-below d p q l h =
    let whole : (9 + p) + (q - p) ≡ 9 + q = omega arith in
    let e : 10 ^ (9 + q) ≡ 10 ^ (9 + p) * 10 ^ (q - p) = ap (λ k. 10 ^ k) (sym whole) ∙ pow-add 10 (9 + p) (q - p) in
    let g : 0 < 10 ^ (q - p) = one-le-pow (q - p) 10 (omega arith) in
    rw e (mul-lt-mul_right-of g h)

-- fewer than 10 ^ 14 wholes are fewer than 10 ^ 38 units
pub readable-units : (d p : ℕ) → p ≤ 24 → d < 10 ^ (14 + p) → d * 10 ^ (24 - p) < 10 ^ 38
readable-units d p l h =
    let whole : (14 + p) + (24 - p) ≡ 38 = omega arith in
    let e : 10 ^ 38 ≡ 10 ^ (14 + p) * 10 ^ (24 - p) = ap (λ k. 10 ^ k) (sym whole) ∙ pow-add 10 (14 + p) (24 - p) in
    let g : 0 < 10 ^ (24 - p) = one-le-pow (24 - p) 10 (omega arith) in
    rw e (mul-lt-mul_right-of g h)

-- parts of 10 ^ -q in units of 10 ^ -24
pub in-units : (d p q : ℕ) → p ≤ q → q ≤ 24 → d * 10 ^ (q - p) * 10 ^ (24 - q) ≡ d * 10 ^ (24 - p)
in-units d p q h l =
    let whole : (q - p) + (24 - q) ≡ 24 - p = omega arith in
    mul_assoc d (10 ^ (q - p)) (10 ^ (24 - q)) ∙ ap (λ t. d * t) (sym (pow-add 10 (q - p) (24 - q)) ∙ ap (λ k. 10 ^ k) whole)

-- a raw value of 16 bits times a scale, and an offset
pub slope-below : (raw s q : ℕ) → raw < 2 ^ 16 → q ≤ 24 → s < 10 ^ (9 + q) → raw * s ≤ 65535 * 10 ^ (9 + q)
slope-below raw s q h l b = omega (arith, mul-le-mul_right {m = raw} {n = 65535} s (omega arith), mul-le-mul_left {m = s} {n = 10 ^ (9 + q)} 65535 (omega arith))

pub physical-below : (n q : ℕ) → q ≤ 24 → n < 65536 * 10 ^ (9 + q) → n * 10 ^ (24 - q) < 10 ^ 38
physical-below n q l h =
    let whole : (9 + q) + (24 - q) ≡ 33 = omega arith in
    let e : 10 ^ 33 ≡ 10 ^ (9 + q) * 10 ^ (24 - q) = ap (λ k. 10 ^ k) (sym whole) ∙ pow-add 10 (9 + q) (24 - q) in
    let g : 0 < 10 ^ (24 - q) = one-le-pow (24 - q) 10 (omega arith) in
    let m : n * 10 ^ (24 - q) < 65536 * 10 ^ (9 + q) * 10 ^ (24 - q) = mul-lt-mul_right-of g h in
    omega (arith, m, e)

pub slope-units : (raw d p q : ℕ) → p ≤ q → q ≤ 24 → raw * (d * 10 ^ (q - p)) * 10 ^ (24 - q) ≡ raw * (d * 10 ^ (24 - p))
slope-units raw d p q h l = mul_assoc raw (d * 10 ^ (q - p)) (10 ^ (24 - q)) ∙ ap (λ t. raw * t) (in-units d p q h l)

pub fraction-is : (p n : ℕ) → 0 < p → (46 ∷ []) ++ last_digits p n ≡ fraction p n
fraction-is zero n h = absurd (omega arith)
fraction-is (suc k) n h = refl

pub all-places : (n : ℕ) → n * 10 ^ (24 - 24) ≡ n
all-places n = omega arith

pub ten-next : (k : ℕ) → 10 ^ suc k ≡ 10 * 10 ^ k
ten-next k = let e : suc k ≡ k + 1 = omega arith in ap (λ i. 10 ^ i) e ∙ ten-more k

-- the limit in units
pub limit-in-units : (d p : ℕ) → p ≤ 24 → nat_lt d (10 ^ (9 + p)) ≡ nat_lt (d * 10 ^ (24 - p)) (10 ^ 33)
limit-in-units d p l =
    elim (cases_Bool (nat_lt d (10 ^ (9 + p)))) [
      | inl t ↦ t ∙ sym (lt-ltb (d * 10 ^ (24 - p)) (10 ^ 33) (units-below d p l (ltb-true d (10 ^ (9 + p)) t)))
      | inr t ↦ elim (cases_Bool (nat_lt (d * 10 ^ (24 - p)) (10 ^ 33))) [
        | inl u ↦ absurd (omega (arith, limits-from_units d p (d * 10 ^ (24 - p)) l refl (ltb-true (d * 10 ^ (24 - p)) (10 ^ 33) u), ltb-false d (10 ^ (9 + p)) t))
        | inr u ↦ t ∙ sym u
      ]
    ]
