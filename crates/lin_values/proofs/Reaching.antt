-- Of the multiples of a scale the ones next to a distance.
use Rattle.std.proofs.Common.{◌≡◌, ℕ, zero, suc, ◌+◌, ◌*◌, ◌/◌, ◌<◌, ◌≤◌, ◌⊎◌, inl, inr, sym, arith, refl, Bool, true, false, nat_lt, subst, min, max, not}
use Rattle.std.specs.Bool.{beq}
use Rattle.std.specs.Prelude.{ℤ, int_lt, unsigned_abs}
use lib.IntN.{pos, negsuc, neg_ℤ, ◌*ℤ◌, ◌-ℤ◌}
use lib.Signed.{◌<ℤ◌, ◌≤ℤ◌}
use Rattle.std.proofs.Math.IntN.{pos-*ℤ-pos, pos-*ℤ-negsuc}
use Rattle.std.proofs.Math.Nat.{mul-le-mul_right}
use Rattle.std.proofs.lemmas.Int.{ints}
use Rattle.std.proofs.lemmas.Grind.{common_steps}
use Rattle.lin_values.specs.Layers.{in_span}
use Rattle.lin_values.specs.Nearest.{IsAtLeastAsNear}
use Rattle.lin_values.specs.declared.layers.Span.{Span}

size-up : (a b : ℤ) → pos 0 ≤ℤ a → a ≤ℤ b → unsigned_abs a ≤ unsigned_abs b
size-up (pos a) (pos b) h i = omega (arith, ints)
size-up (pos a) (negsuc b) h i = absurd (omega (arith, ints))
size-up (negsuc a) b h i = absurd (omega (arith, ints))

size-up-more : (a b : ℤ) → pos 0 ≤ℤ a → a <ℤ b → unsigned_abs a < unsigned_abs b
size-up-more (pos a) (pos b) h i = omega (arith, ints)
size-up-more (pos a) (negsuc b) h i = absurd (omega (arith, ints))
size-up-more (negsuc a) b h i = absurd (omega (arith, ints))

size-down : (a b : ℤ) → a ≤ℤ pos 0 → b ≤ℤ a → unsigned_abs a ≤ unsigned_abs b
size-down (pos a) (pos b) h i = omega (arith, ints)
size-down (pos a) (negsuc b) h i = omega (arith, ints)
size-down (negsuc a) (pos b) h i = absurd (omega (arith, ints))
size-down (negsuc a) (negsuc b) h i = omega (arith, ints)

size-down-more : (a b : ℤ) → a ≤ℤ pos 0 → b <ℤ a → unsigned_abs a < unsigned_abs b
size-down-more (pos a) (pos b) h i = absurd (omega (arith, ints))
size-down-more (pos a) (negsuc b) h i = omega (arith, ints)
size-down-more (negsuc a) (pos b) h i = absurd (omega (arith, ints))
size-down-more (negsuc a) (negsuc b) h i = omega (arith, ints)

-- of two multiples the second lies between the first and the distance
abbrev pub IsBetween : ℤ → ℕ → ℕ → ℤ → ℤ → Type 0
IsBetween x c n v u =
    (pos 0 ≤ℤ (x -ℤ u) → pos 0 ≤ℤ (x -ℤ v))
    × ((x -ℤ u) ≤ℤ pos 0 → (x -ℤ v) ≤ℤ pos 0)
    × (unsigned_abs (x -ℤ v) ≤ unsigned_abs (x -ℤ u))
    × (n < c → unsigned_abs (x -ℤ v) < unsigned_abs (x -ℤ u))

pub risen : (x : ℤ) (c n : ℕ) (v u : ℤ) → u ≤ℤ v → v ≤ℤ x → (n < c → u <ℤ v) → IsBetween x c n v u
risen x c n v u h i j = (
  λ k. omega (arith, ints),
  λ k. omega (arith, ints),
  size-up (x -ℤ v) (x -ℤ u) (omega (arith, ints)) (omega (arith, ints)),
  λ k. let l : u <ℤ v = j k in size-up-more (x -ℤ v) (x -ℤ u) (omega (arith, ints)) (omega (arith, ints)),
)

pub fallen : (x : ℤ) (c n : ℕ) (v u : ℤ) → x ≤ℤ v → v ≤ℤ u → (n < c → v <ℤ u) → IsBetween x c n v u
fallen x c n v u h i j = (
  λ k. omega (arith, ints),
  λ k. omega (arith, ints),
  size-down (x -ℤ v) (x -ℤ u) (omega (arith, ints)) (omega (arith, ints)),
  λ k. let l : v <ℤ u = j k in size-down-more (x -ℤ v) (x -ℤ u) (omega (arith, ints)) (omega (arith, ints)),
)

by-multiples : (scale x : ℤ) (c n : ℕ) (v u : ℤ) → pos c *ℤ scale ≡ v → pos n *ℤ scale ≡ u → IsBetween x c n v u → IsAtLeastAsNear scale x c n
by-multiples scale x c n v u e f h =
    subst (λ (w : ℤ). IsBetween x c n w (pos n *ℤ scale)) (sym e) (subst (λ (w : ℤ). IsBetween x c n v w) (sym f) h)

-- ---- both candidates, by the scale's size and the distance's

step-up : (n c s : ℕ) → n < c → 0 < s → n * s < c * s
step-up n c s h i =
    let e : (n + 1) * s ≤ c * s = mul-le-mul_right s (let j : n + 1 ≤ c = omega arith in j) in omega arith

pos-risen : (s d c n : ℕ) → 0 < s → n ≤ c → c * s ≤ d → IsAtLeastAsNear (pos s) (pos d) c n
pos-risen s d c n h i j =
    by-multiples (pos s) (pos d) c n (pos (c * s)) (pos (n * s)) (pos-*ℤ-pos c s) (pos-*ℤ-pos n s)
    (risen (pos d) c n (pos (c * s)) (pos (n * s))
    (let k : n * s ≤ c * s = mul-le-mul_right s i in omega (arith, ints)) (omega (arith, ints))
    (λ w. let k : n * s < c * s = step-up n c s w h in omega (arith, ints)))

pos-fallen : (s : ℕ) (x : ℤ) (c n : ℕ) → c ≤ n → x ≤ℤ pos (c * s) → IsAtLeastAsNear (pos s) x c n
pos-fallen s x c n i j =
    by-multiples (pos s) x c n (pos (c * s)) (pos (n * s)) (pos-*ℤ-pos c s) (pos-*ℤ-pos n s)
    (fallen x c n (pos (c * s)) (pos (n * s)) j
    (let k : c * s ≤ n * s = mul-le-mul_right s i in omega (arith, ints))
    (λ w. absurd (omega arith)))

neg-fallen : (s d c n : ℕ) → n ≤ c → c * suc s ≤ suc d → IsAtLeastAsNear (negsuc s) (negsuc d) c n
neg-fallen s d c n i j =
    let k : n * suc s ≤ c * suc s = mul-le-mul_right (suc s) i in
    by-multiples (negsuc s) (negsuc d) c n (neg_ℤ (pos (c * suc s))) (neg_ℤ (pos (n * suc s))) (pos-*ℤ-negsuc c s) (pos-*ℤ-negsuc n s)
    (fallen (negsuc d) c n (neg_ℤ (pos (c * suc s))) (neg_ℤ (pos (n * suc s))) (omega (arith, ints)) (omega (arith, ints))
    (λ w. let l : n * suc s < c * suc s = step-up n c (suc s) w (omega arith) in omega (arith, ints)))

neg-risen : (s : ℕ) (x : ℤ) (c n : ℕ) → c ≤ n → neg_ℤ (pos (c * suc s)) ≤ℤ x → IsAtLeastAsNear (negsuc s) x c n
neg-risen s x c n i j =
    let k : c * suc s ≤ n * suc s = mul-le-mul_right (suc s) i in
    by-multiples (negsuc s) x c n (neg_ℤ (pos (c * suc s))) (neg_ℤ (pos (n * suc s))) (pos-*ℤ-negsuc c s) (pos-*ℤ-negsuc n s)
    (risen x c n (neg_ℤ (pos (c * suc s))) (neg_ℤ (pos (n * suc s))) (omega (arith, ints)) j (λ w. absurd (omega arith)))

-- how often one number goes into another
quotient : (d s q : ℕ) → 0 < s → q ≡ d / s → (q * s ≤ d) × (d < (q + 1) * s)
quotient d s q h e = let f : d / s * s ≤ d = omega arith in let g : d < (d / s + 1) * s = omega arith in
    (subst (λ (k : ℕ). k * s ≤ d) (sym e) f, subst (λ (k : ℕ). d < (k + 1) * s) (sym e) g)

up-to : (c q s d : ℕ) → c ≤ q → q * s ≤ d → c * s ≤ d
up-to c q s d h i = let k : c * s ≤ q * s = mul-le-mul_right s h in omega arith

from-on : (c q s d : ℕ) → q + 1 ≤ c → d < (q + 1) * s → d < c * s
from-on c q s d h i = let k : (q + 1) * s ≤ c * s = mul-le-mul_right s h in omega arith

abbrev pub IsNextTo : ℤ → ℤ → ℕ → ℕ → ℕ → Type 0
IsNextTo scale x a c n = IsAtLeastAsNear scale x a n ⊎ IsAtLeastAsNear scale x c n

-- what the ends of a span leave of two numbers that follow each other
low-end : (from to q n : ℕ) → from ≤ n → n ≤ to → n ≤ q → (n ≤ max from (min q to)) × (max from (min q to) ≤ q)
low-end from to q n h i j = (omega arith, omega arith)

high-end : (from to q n : ℕ) → from ≤ n → n ≤ to → q < n → (q + 1 ≤ max from (min (q + 1) to)) × (max from (min (q + 1) to) ≤ n)
high-end from to q n h i j = (omega arith, omega arith)

by-side : {P : Type 0} (n q : ℕ) → (n ≤ q → P) → (q < n → P) → (b : Bool) → nat_lt q n ≡ b → P
by-side n q f g true e = g (grind (arith, common_steps))
by-side n q f g false e = f (grind (arith, common_steps))

below-zero : (s : ℕ) → int_lt (pos s) (pos 0) ≡ false
below-zero s = grind (arith, ints)

next-to : (scale x : ℤ) (from to n q : ℕ) → (scale ≡ pos 0 → ⊥) → int_lt scale (pos 0) ≡ int_lt x (pos 0) → from ≤ n → n ≤ to
    → q ≡ unsigned_abs x / unsigned_abs scale
    → IsNextTo scale x (max from (min q to)) (max from (min (q + 1) to)) n
next-to (pos zero) x from to n q z t h i e = absurd (z refl)
next-to (pos (suc s)) (pos d) from to n q z t h i e =
    let r = quotient d (suc s) q (omega arith) e in
    by-side n q
    (λ j. let b = low-end from to q n h i j in inl (pos-risen (suc s) d (max from (min q to)) n (omega arith) b.0 (up-to (max from (min q to)) q (suc s) d b.1 r.0)))
    (λ j. let b = high-end from to q n h i j in
    let k : d < max from (min (q + 1) to) * suc s = from-on (max from (min (q + 1) to)) q (suc s) d b.0 r.1 in
    inr (pos-fallen (suc s) (pos d) (max from (min (q + 1) to)) n b.1 (omega (arith, ints))))
    (nat_lt q n) refl
next-to (pos (suc s)) (negsuc d) from to n q z t h i e = cc (below-zero (suc s))
next-to (negsuc s) (pos d) from to n q z t h i e = cc (below-zero d)
next-to (negsuc s) (negsuc d) from to n q z t h i e =
    let r = quotient (suc d) (suc s) q (omega arith) e in
    by-side n q
    (λ j. let b = low-end from to q n h i j in inl (neg-fallen s d (max from (min q to)) n b.0 (up-to (max from (min q to)) q (suc s) (suc d) b.1 r.0)))
    (λ j. let b = high-end from to q n h i j in
    let k : suc d < max from (min (q + 1) to) * suc s = from-on (max from (min (q + 1) to)) q (suc s) (suc d) b.0 r.1 in
    inr (neg-risen s (negsuc d) (max from (min (q + 1) to)) n b.1 (omega (arith, ints))))
    (nat_lt q n) refl

from-of : (s : Span) (n : ℕ) → in_span s n ≡ true → s.from ≤ n
from-of s n h = grind (arith, common_steps)

to-of : (s : Span) (n : ℕ) → in_span s n ≡ true → n ≤ s.to
to-of s n h = grind (arith, common_steps)

pub next-in : (scale x : ℤ) (s : Span) (n q : ℕ) → (scale ≡ pos 0 → ⊥) → int_lt scale (pos 0) ≡ int_lt x (pos 0) → in_span s n ≡ true
    → q ≡ unsigned_abs x / unsigned_abs scale
    → IsNextTo scale x (max s.from (min q s.to)) (max s.from (min (q + 1) s.to)) n
next-in scale x s n q z t h e = next-to scale x s.from s.to n q z t (from-of s n h) (to-of s n h) e

pub next-by : (scale x : ℤ) (s : Span) (n d w a b from to : ℕ) → (scale ≡ pos 0 → ⊥) → int_lt scale (pos 0) ≡ int_lt x (pos 0)
    → d ≡ unsigned_abs x → w ≡ unsigned_abs scale → from ≡ s.from → to ≡ s.to
    → a ≡ max from (min (d / w) to) → b ≡ max from (min (d / w + 1) to)
    → in_span s n ≡ true → IsNextTo scale x a b n
next-by scale x s n d w a b from to z t ed ew ef et ea eb h =
    let r = next-in scale x s n (d / w) z t h (cc) in
    let fa : max s.from (min (d / w) s.to) ≡ a = cc in
    let fb : max s.from (min (d / w + 1) s.to) ≡ b = cc in
    subst (λ (k : ℕ). IsNextTo scale x a k n) fb (subst (λ (k : ℕ). IsNextTo scale x k (max s.from (min (d / w + 1) s.to)) n) fa r)

pub same-side : (a b : Bool) → not (beq a b) ≡ false → a ≡ b
same-side true true h = refl
same-side true false h = cc
same-side false true h = cc
same-side false false h = refl
