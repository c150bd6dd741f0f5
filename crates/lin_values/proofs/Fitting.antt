-- Ranges whose values fit.
use Rattle.std.proofs.Common.{◌≡◌, ℕ, ◌+◌, ◌-◌, ◌*◌, ◌^◌, ◌<◌, ◌≤◌, ◌&&◌, List, max, nat_le, true, false, refl, subst, arith, inl, inr, eq-zero-or-pos}
use Rattle.std.proofs.Math.Nat.{mul-le-mul_left, mul-le-mul_right, one-le-pow}
use Rattle.std.proofs.lemmas.Bool.{leb-true, lt-ltb, ltb-true}
use Rattle.lin_values.specs.Meaning.{CountsFor}
use Rattle.lin_values.specs.Value.{fits, greatest_size, IsInLimits}
use Rattle.lin_values.specs.declared.decimals.Decimal.{Decimal}
use Rattle.lin_values.specs.declared.codings.Item.{Item}
use Rattle.lin_values.specs.declared.codings.Item.TheVariants.{Physical}
use Rattle.lin_values.proofs.SpelledValues.{first-small, rest-small}
use Rattle.lin_values.proofs.Powers.{digits-below, slope-below, ten-below}

-- the greatest size, by the digits of both
pub size-is : (number : ℕ) (scale offset : Decimal) (p a b : ℕ) → p ≡ max scale.places offset.places → a ≡ scale.digits * 10 ^ (p - scale.places) → b ≡ offset.digits * 10 ^ (p - offset.places) → number * a + b ≡ greatest_size number scale offset
size-is number scale offset p a b places slope rest = rw (slope, rest, places) refl

pub size-below : (number : ℕ) (scale offset : Decimal) (p a b : ℕ) → p ≡ max scale.places offset.places → a ≡ scale.digits * 10 ^ (p - scale.places) → b ≡ offset.digits * 10 ^ (p - offset.places) → fits number scale offset ≡ true → number * a + b < 2 ^ 127
size-below number scale offset p a b places slope rest h =
    rw (size-is number scale offset p a b places slope rest) (ltb-true (greatest_size number scale offset) (2 ^ 127) h)

-- smaller numbers fit, too
pub fits-below : (n to : ℕ) (scale offset : Decimal) → n ≤ to → fits to scale offset ≡ true → fits n scale offset ≡ true
fits-below n to scale offset le h =
    let p = max scale.places offset.places in
    let s = scale.digits * 10 ^ (p - scale.places) in
    let most : greatest_size to scale offset < 2 ^ 127 = ltb-true (greatest_size to scale offset) (2 ^ 127) h in
    lt-ltb (greatest_size n scale offset) (2 ^ 127) (omega (arith, most, mul-le-mul_right {m = n} {n = to} s le))

-- numbers of 16 bits fit
pub small-fits : (n : ℕ) (scale offset : Decimal) → n < 65536 → IsInLimits scale → IsInLimits offset → fits n scale offset ≡ true
small-fits n scale offset lt s o =
    let p = max scale.places offset.places in
    let a = scale.digits * 10 ^ (p - scale.places) in
    let b = offset.digits * 10 ^ (p - offset.places) in
    let few : p ≤ 24 = omega (arith, s.0, o.0) in
    let ha : a < 10 ^ (9 + p) = digits-below scale.digits scale.places p (omega arith) s.1 in
    let hb : b < 10 ^ (9 + p) = digits-below offset.digits offset.places p (omega arith) o.1 in
    let slope : n * a ≤ 65535 * 10 ^ (9 + p) = slope-below n a p (omega arith) few ha in
    let most : 10 ^ (9 + p) ≤ 10 ^ 33 = ten-below (9 + p) 33 (omega arith) in
    lt-ltb (greatest_size n scale offset) (2 ^ 127) (omega (arith, slope, hb, most))

-- the same value with fewer places has no more digits
pub fewer-digits : (d e p q : ℕ) → q ≤ p → p ≤ 24 → e * 10 ^ (24 - q) ≡ d * 10 ^ (24 - p) → e ≤ d
fewer-digits d e p q le few same =
    elim (eq-zero-or-pos (e - d)) [
      | inl z ↦ omega arith
      | inr g ↦ absurd (omega (arith, same, mul-le-mul_right {m = d + 1} {n = e} (10 ^ (24 - p)) (omega arith), mul-le-mul_left {m = 10 ^ (24 - p)} {n = 10 ^ (24 - q)} e (ten-below (24 - p) (24 - q) (omega arith)), one-le-pow (24 - p) 10 (omega arith)))
    ]

-- a range that counts for a number fits it
pub counting-fits : (n from to : ℕ) (scale offset : Decimal) (unit : List ℕ) (i : Item) → i ≡ Physical from to scale offset unit → CountsFor n i → fits n scale offset ≡ true
counting-fits n from to scale offset unit i is h =
    let here : CountsFor n (Physical from to scale offset unit) = subst (CountsFor n) is h in
    elim here [
      | inl v ↦ absurd (let no : false ≡ true = v in cc)
      | inr r ↦
          let ends : nat_le from n && nat_le n to ≡ true = rest-small (fits to scale offset) (nat_le from n && nat_le n to) r in
          fits-below n to scale offset (leb-true n to (rest-small (nat_le from n) (nat_le n to) ends)) (first-small (fits to scale offset) (nat_le from n && nat_le n to) r)
    ]
