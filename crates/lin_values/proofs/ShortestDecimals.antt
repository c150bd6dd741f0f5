-- Decimals without zeros at their end.
use Rattle.std.proofs.Common.{◌≡◌, ℕ, zero, suc, ◌+◌, ◌-◌, ◌*◌, ◌/◌, ◌%◌, ◌^◌, ◌<◌, ◌≤◌, ◌==◌, ◌&&◌, ap, sym, ◌∙◌, arith, refl, Bool, true, false, nat_lt}
use Rattle.std.proofs.lemmas.Grind.{common_steps}
use Rattle.std.specs.Int.{is_negative}
use Rattle.std.specs.Prelude.{unsigned_abs}
use Rattle.std.proofs.Math.Nat.{mul-pos, one-le-pow}
use Rattle.lin_values.proofs.Powers.{ten-next}
use Rattle.lin_values.specs.Value.{without_zeros, shortest_at, with_sign, scaled_value, IsShortest, decimal_of}
use Rattle.lin_values.specs.declared.decimals.Decimal.{Decimal}

-- a zero dropped
pub zero-dropped : (n p : ℕ) → 0 < p → n % 10 ≡ 0 → without_zeros n p ≡ without_zeros (n / 10) (p - 1)
zero-dropped n zero h e = absurd (omega arith)
zero-dropped n (suc k) h e =
    let t : (n % 10 == 0) ≡ true = grind (arith, common_steps) in
    let p : suc k - 1 ≡ k = omega arith in
    rw (t, p) refl

pub tenth-positive : (n : ℕ) → n % 10 ≡ 0 → nat_lt 0 (n / 10) ≡ nat_lt 0 n
tenth-positive n e = grind (arith, common_steps)

-- no zero to drop
pub none-left : (n p : ℕ) → p ≡ 0 → without_zeros n p ≡ (n, p)
none-left n p e = rw e refl

pub last-kept : (n p : ℕ) → 0 < n % 10 → without_zeros n p ≡ (n, p)
last-kept n zero h = refl
last-kept n (suc k) h =
    let t : (n % 10 == 0) ≡ false = grind (arith, common_steps) in
    rw t refl

pub shortest-is : (b : Bool) (n p rest left : ℕ) → without_zeros n p ≡ (rest, left) → nat_lt 0 rest ≡ nat_lt 0 n
    → (let d : Decimal = record { negative = b && nat_lt 0 rest; digits = rest; places = left } in d ≡ shortest_at b n p)
shortest-is b n p rest left e z = rw (e, z) refl

-- ---- a decimal again from its value

ten-times : (n k : ℕ) → n * 10 ^ suc k ≡ 10 * (n * 10 ^ k)
ten-times n k = omega (arith, ap (λ t. n * t) (ten-next k))

zeros-dropped : (j n p : ℕ) → without_zeros (n * 10 ^ j) (p + j) ≡ without_zeros n p
zeros-dropped zero n p =
    let e : n * 10 ^ 0 ≡ n = omega arith in
    let f : p + 0 ≡ p = omega arith in
    rw (e, f) refl
zeros-dropped (suc j) n p =
    let e : p + suc j - 1 ≡ p + j = omega arith in
    let f : n * 10 ^ suc j / 10 ≡ n * 10 ^ j = omega (arith, ten-times n j) in
    zero-dropped (n * 10 ^ suc j) (p + suc j) (omega arith) (omega (arith, ten-times n j)) ∙ rw (e, f) (zeros-dropped j n p)

-- eight zeros dropped
pub eight-dropped : (n p : ℕ) → 8 ≤ p → n % 100000000 ≡ 0 → without_zeros (n / 100000000) (p - 8) ≡ without_zeros n p
eight-dropped n p h e =
    let q = n / 100000000 in
    let tens : q * 10 ^ 8 ≡ n = omega arith in
    let places : (p - 8) + 8 ≡ p = omega arith in
    sym (zeros-dropped 8 q (p - 8)) ∙ ap (λ x. without_zeros x ((p - 8) + 8)) tens ∙ ap (λ k. without_zeros n k) places

pub eighth-positive : (n : ℕ) → n % 100000000 ≡ 0 → nat_lt 0 (n / 100000000) ≡ nat_lt 0 n
eighth-positive n e = grind (arith, common_steps)

short-already : (n p : ℕ) → (0 < p → 0 < n % 10) → without_zeros n p ≡ (n, p)
short-already n zero h = refl
short-already n (suc k) h = last-kept n (suc k) (h (omega arith))

pub size-of : (b : Bool) (n : ℕ) → unsigned_abs (with_sign b n) ≡ n
size-of false n = refl
size-of true zero = refl
size-of true (suc n) = refl

sign-of : (b : Bool) (n : ℕ) → (b ≡ true → 0 < n) → is_negative (with_sign b n) ≡ b
sign-of false n h = grind (arith, common_steps)
sign-of true zero h = absurd (omega (arith, h refl))
sign-of true (suc n) h = grind (arith, common_steps)

sign-kept : (b : Bool) (n : ℕ) → (b ≡ true → 0 < n) → (b && nat_lt 0 n) ≡ b
sign-kept false n h = refl
sign-kept true n h = let p : 0 < n = h refl in grind (arith, common_steps)

-- a decimal in its shortest form is the one of its value
pub decimal-of-value : (d : Decimal) → d.places ≤ 24 → IsShortest d → decimal_of (scaled_value d) ≡ d
decimal-of-value d l h =
    let units = d.digits * 10 ^ (24 - d.places) in
    let whole : d.places + (24 - d.places) ≡ 24 = omega arith in
    let some : d.negative ≡ true → 0 < units = λ e. mul-pos (h.1 e) (one-le-pow (24 - d.places) 10 (omega arith)) in
    let short : without_zeros units 24 ≡ (d.digits, d.places) =
    ap (λ k. without_zeros units k) (sym whole) ∙ zeros-dropped (24 - d.places) d.digits d.places ∙ short-already d.digits d.places h.0
    in
    rw (sign-of d.negative units some, size-of d.negative units, short, sign-kept d.negative units some) refl
