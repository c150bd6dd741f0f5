-- Comparisons of multiples with a sum on one side.
use Rattle.std.proofs.Common.{◌≡◌, ℕ, zero, suc, ◌+◌, ◌-◌, ◌*◌, ◌<◌, ◌^◌, ap, sym, ◌∙◌, arith, refl, Bool, true, false, not, ◌&&◌}
use Rattle.std.specs.Prelude.{ℤ, int_lt, int_le, unsigned_abs}
use lib.IntN.{pos, negsuc, ◌+ℤ◌, ◌*ℤ◌, ◌-ℤ◌, neg_ℤ}
use mir.Syntax.{w128}
use mir.Val.{SFits, of_z, to_z}
use Rattle.std.proofs.Math.IntN.{pos-*ℤ-pos, pos-*ℤ-negsuc}
use lib.Signed.{◌<ℤ◌, ◌≤ℤ◌}
use Rattle.std.proofs.lemmas.Int.{ints, by_lt_z, to_z-of_z}
use Rattle.lin_values.specs.Raws.{lies_within}
use Rattle.lin_values.specs.Value.{scaled_value, IsInLimits}
use Rattle.lin_values.specs.declared.decimals.Decimal.{Decimal}
use Rattle.lin_values.proofs.Powers.{units-below}
use Rattle.lin_values.proofs.ShortestAgain.{size-of}

pub difference-fits : (a b : ℤ) → unsigned_abs a + unsigned_abs b < 2 ^ 127 → SFits w128 (a -ℤ b)
difference-fits (pos a) (pos b) h = omega (arith, ints)
difference-fits (pos a) (negsuc b) h = omega (arith, ints)
difference-fits (negsuc a) (pos b) h = omega (arith, ints)
difference-fits (negsuc a) (negsuc b) h = omega (arith, ints)

lt-is : (a b : ℤ) → a <ℤ b → int_lt a b ≡ true
lt-is a b h = grind (arith, ints)

lt-not : (a b : ℤ) → b ≤ℤ a → int_lt a b ≡ false
lt-not a b h = grind (arith, ints)

same-test : (a b c d : ℤ) → (a <ℤ b → c <ℤ d) → (b ≤ℤ a → d ≤ℤ c) → int_lt a b ≡ int_lt c d
same-test a b c d f g = by_lt_z a b (λ h. lt-is a b h ∙ sym (lt-is c d (f h))) (λ h. lt-not a b h ∙ sym (lt-not c d (g h)))

low-moved : (z o low : ℤ) → int_lt (z +ℤ o) low ≡ int_lt z (low -ℤ o)
low-moved z o low = same-test (z +ℤ o) low z (low -ℤ o) (λ h. omega (arith, ints)) (λ h. omega (arith, ints))

high-moved : (z o high : ℤ) → int_lt high (z +ℤ o) ≡ int_lt (high -ℤ o) z
high-moved z o high = same-test high (z +ℤ o) (high -ℤ o) z (λ h. omega (arith, ints)) (λ h. omega (arith, ints))

low-turned : (z o low : ℤ) → int_lt (neg_ℤ z +ℤ o) low ≡ int_lt (o -ℤ low) z
low-turned z o low = same-test (neg_ℤ z +ℤ o) low (o -ℤ low) z (λ h. omega (arith, ints)) (λ h. omega (arith, ints))

high-turned : (z o high : ℤ) → int_lt high (neg_ℤ z +ℤ o) ≡ int_lt z (o -ℤ high)
high-turned z o high = same-test high (neg_ℤ z +ℤ o) z (o -ℤ high) (λ h. omega (arith, ints)) (λ h. omega (arith, ints))

and-turned : (a b : Bool) → a && b ≡ b && a
and-turned true true = refl
and-turned true false = refl
and-turned false true = refl
and-turned false false = refl

moved : (z o low high : ℤ) → lies_within low high (z +ℤ o) ≡ lies_within (low -ℤ o) (high -ℤ o) z
moved z o low high = rw (low-moved z o low, high-moved z o high) refl

turned : (z o low high : ℤ) → lies_within low high (neg_ℤ z +ℤ o) ≡ lies_within (o -ℤ high) (o -ℤ low) z
turned z o low high = rw (low-turned z o low, high-turned z o high) (and-turned (not (int_lt (o -ℤ low) z)) (not (int_lt z (o -ℤ high))))

-- the scale is above 0, or below
pub rising : (n : ℕ) (scale o low high : ℤ) → int_lt (pos 0) scale ≡ true → lies_within low high (pos n *ℤ scale +ℤ o) ≡ lies_within (low -ℤ o) (high -ℤ o) (pos (n * unsigned_abs scale))
rising n (pos s) o low high h = ap (λ z. lies_within low high (z +ℤ o)) (pos-*ℤ-pos n s) ∙ moved (pos (n * s)) o low high
rising n (negsuc s) o low high h = cc

no-below : (s : ℕ) → int_lt (pos s) (pos 0) ≡ true → ⊥
no-below s h = let e : int_lt (pos s) (pos 0) ≡ false = lt-not (pos s) (pos 0) (omega (arith, ints)) in cc

pub falling : (n : ℕ) (scale o low high : ℤ) → int_lt scale (pos 0) ≡ true → lies_within low high (pos n *ℤ scale +ℤ o) ≡ lies_within (o -ℤ high) (o -ℤ low) (pos (n * unsigned_abs scale))
falling n (pos s) o low high h = absurd (no-below s h)
falling n (negsuc s) o low high h = ap (λ z. lies_within low high (z +ℤ o)) (pos-*ℤ-negsuc n s) ∙ turned (pos (n * suc s)) o low high

nothing-added : (n : ℕ) (o : ℤ) → pos n *ℤ pos 0 +ℤ o ≡ o
nothing-added n o = ap (λ z. z +ℤ o) (pos-*ℤ-pos n 0 ∙ ap pos (let e : n * 0 ≡ 0 = omega arith in e)) ∙ omega (arith, ints)

pub level : (n : ℕ) (scale o low high : ℤ) → int_lt (pos 0) scale ≡ false → int_lt scale (pos 0) ≡ false → lies_within low high (pos n *ℤ scale +ℤ o) ≡ lies_within low high o
level n (pos zero) o low high h k = ap (lies_within low high) (nothing-added n o)
level n (pos (suc s)) o low high h k = let e : int_lt (pos 0) (pos (suc s)) ≡ true = lt-is (pos 0) (pos (suc s)) (omega (arith, ints)) in cc
level n (negsuc s) o low high h k = cc

kept-difference : (a b l : ℤ) → to_z w128 (of_z w128 a) ≡ a → to_z w128 (of_z w128 b) ≡ b → unsigned_abs a + unsigned_abs b < 2 ^ 127
    → l ≡ to_z w128 (of_z w128 a) -ℤ to_z w128 (of_z w128 b) → to_z w128 (of_z w128 l) ≡ a -ℤ b
kept-difference a b l ka kb h e =
    ap (λ z. to_z w128 (of_z w128 z)) (e ∙ ap (λ z. z -ℤ to_z w128 (of_z w128 b)) ka ∙ ap (λ z. a -ℤ z) kb) ∙ to_z-of_z w128 (a -ℤ b) (difference-fits a b h)

same-ends : (l h low high : ℤ) (n step s : ℕ) (r : Bool) → l ≡ low → h ≡ high → step ≡ s → lies_within l h (pos (n * step)) ≡ r → lies_within low high (pos (n * s)) ≡ r
same-ends l h low high n step s r el eh es f =
    ap (λ z. lies_within z high (pos (n * s))) (sym el) ∙ ap (λ z. lies_within l z (pos (n * s))) (sym eh) ∙ ap (λ k. lies_within l h (pos (n * k))) (sym es) ∙ f

pub rising-by : (scale o low high l h : ℤ) (step n : ℕ) (r : Bool)
    → to_z w128 (of_z w128 scale) ≡ scale → to_z w128 (of_z w128 o) ≡ o → to_z w128 (of_z w128 low) ≡ low → to_z w128 (of_z w128 high) ≡ high
    → unsigned_abs low + unsigned_abs o < 2 ^ 127 → unsigned_abs high + unsigned_abs o < 2 ^ 127
    → l ≡ to_z w128 (of_z w128 low) -ℤ to_z w128 (of_z w128 o) → h ≡ to_z w128 (of_z w128 high) -ℤ to_z w128 (of_z w128 o)
    → step ≡ unsigned_abs (to_z w128 (of_z w128 scale)) → int_lt (pos 0) (to_z w128 (of_z w128 scale)) ≡ true
    → lies_within (to_z w128 (of_z w128 l)) (to_z w128 (of_z w128 h)) (pos (n * step)) ≡ r
    → lies_within low high (pos n *ℤ scale +ℤ o) ≡ r
rising-by scale o low high l h step n r ks ko kl kh bl bh el eh es t f =
    rising n scale o low high (ap (λ z. int_lt (pos 0) z) (sym ks) ∙ t)
    ∙ same-ends (to_z w128 (of_z w128 l)) (to_z w128 (of_z w128 h)) (low -ℤ o) (high -ℤ o) n step (unsigned_abs scale) r
    (kept-difference low o l kl ko bl el) (kept-difference high o h kh ko bh eh) (es ∙ ap unsigned_abs ks) f

pub falling-by : (scale o low high l h : ℤ) (step n : ℕ) (r : Bool)
    → to_z w128 (of_z w128 scale) ≡ scale → to_z w128 (of_z w128 o) ≡ o → to_z w128 (of_z w128 low) ≡ low → to_z w128 (of_z w128 high) ≡ high
    → unsigned_abs low + unsigned_abs o < 2 ^ 127 → unsigned_abs high + unsigned_abs o < 2 ^ 127
    → l ≡ to_z w128 (of_z w128 o) -ℤ to_z w128 (of_z w128 high) → h ≡ to_z w128 (of_z w128 o) -ℤ to_z w128 (of_z w128 low)
    → step ≡ unsigned_abs (to_z w128 (of_z w128 scale)) → int_lt (to_z w128 (of_z w128 scale)) (pos 0) ≡ true
    → lies_within (to_z w128 (of_z w128 l)) (to_z w128 (of_z w128 h)) (pos (n * step)) ≡ r
    → lies_within low high (pos n *ℤ scale +ℤ o) ≡ r
falling-by scale o low high l h step n r ks ko kl kh bl bh el eh es t f =
    falling n scale o low high (ap (λ z. int_lt z (pos 0)) (sym ks) ∙ t)
    ∙ same-ends (to_z w128 (of_z w128 l)) (to_z w128 (of_z w128 h)) (o -ℤ high) (o -ℤ low) n step (unsigned_abs scale) r
    (kept-difference o high l ko kh (omega (arith, bh)) el) (kept-difference o low h ko kl (omega (arith, bl)) eh) (es ∙ ap unsigned_abs ks) f

le-is : (a b : ℤ) → a ≤ℤ b → int_le a b ≡ true
le-is a b h = grind (arith, ints)

none-low : (o low high : ℤ) → int_le low o ≡ false → lies_within low high o ≡ false
none-low o low high e = by_lt_z o low (λ h. ap (λ b. not b && not (int_lt high o)) (lt-is o low h)) (λ h. let t : int_le low o ≡ true = le-is low o h in cc)

none-high : (o low high : ℤ) → int_le o high ≡ false → lies_within low high o ≡ false
none-high o low high e = by_lt_z high o (λ h. ap (λ b. not (int_lt o low) && not b) (lt-is high o h) ∙ and-turned (not (int_lt o low)) false) (λ h. let t : int_le o high ≡ true = le-is o high h in cc)

level-by : (scale o low high : ℤ) (n : ℕ) → to_z w128 (of_z w128 scale) ≡ scale → int_lt (pos 0) (to_z w128 (of_z w128 scale)) ≡ false → int_lt (to_z w128 (of_z w128 scale)) (pos 0) ≡ false → lies_within low high (pos n *ℤ scale +ℤ o) ≡ lies_within low high o
level-by scale o low high n ks s t = level n scale o low high (ap (λ z. int_lt (pos 0) z) (sym ks) ∙ s) (ap (λ z. int_lt z (pos 0)) (sym ks) ∙ t)

pub level-below : (scale o low high : ℤ) (n : ℕ) → to_z w128 (of_z w128 scale) ≡ scale → to_z w128 (of_z w128 o) ≡ o → to_z w128 (of_z w128 low) ≡ low
    → int_lt (pos 0) (to_z w128 (of_z w128 scale)) ≡ false → int_lt (to_z w128 (of_z w128 scale)) (pos 0) ≡ false
    → int_le (to_z w128 (of_z w128 low)) (to_z w128 (of_z w128 o)) ≡ false → lies_within low high (pos n *ℤ scale +ℤ o) ≡ false
level-below scale o low high n ks ko kl s t e =
    level-by scale o low high n ks s t ∙ none-low o low high (ap (λ z. int_le low z) (sym ko) ∙ ap (λ z. int_le z (to_z w128 (of_z w128 o))) (sym kl) ∙ e)

pub level-above : (scale o low high : ℤ) (n : ℕ) → to_z w128 (of_z w128 scale) ≡ scale → to_z w128 (of_z w128 o) ≡ o → to_z w128 (of_z w128 high) ≡ high
    → int_lt (pos 0) (to_z w128 (of_z w128 scale)) ≡ false → int_lt (to_z w128 (of_z w128 scale)) (pos 0) ≡ false
    → int_le (to_z w128 (of_z w128 o)) (to_z w128 (of_z w128 high)) ≡ false → lies_within low high (pos n *ℤ scale +ℤ o) ≡ false
level-above scale o low high n ks ko kh s t e =
    level-by scale o low high n ks s t ∙ none-high o low high (ap (λ z. int_le z high) (sym ko) ∙ ap (λ z. int_le (to_z w128 (of_z w128 o)) z) (sym kh) ∙ e)

small-fits : (z : ℤ) → unsigned_abs z < 10 ^ 33 → SFits w128 z
small-fits (pos a) h = omega (arith, ints)
small-fits (negsuc a) h = omega (arith, ints)

pub small-kept : (z v : ℤ) → z ≡ v → unsigned_abs v < 10 ^ 33 → unsigned_abs (to_z w128 (of_z w128 z)) < 10 ^ 33
small-kept z v e h =
    let b : unsigned_abs z < 10 ^ 33 = omega (arith, h, ap unsigned_abs e) in
    let k : to_z w128 (of_z w128 z) ≡ z = to_z-of_z w128 z (small-fits z b) in
    omega (arith, b, ap unsigned_abs k)

pub coefficient-small : (d : Decimal) → IsInLimits d → unsigned_abs (scaled_value d) < 10 ^ 33
coefficient-small d h =
    let e : unsigned_abs (scaled_value d) ≡ d.digits * 10 ^ (24 - d.places) = size-of d.negative (d.digits * 10 ^ (24 - d.places)) in
    omega (arith, e, units-below d.digits d.places h.0 h.1)
