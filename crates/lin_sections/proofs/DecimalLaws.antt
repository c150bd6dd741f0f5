-- The text of a decimal spells its value.
use Rattle.std.proofs.Common.{◌≡◌, ℕ, zero, suc, ◌+◌, ◌-◌, ◌*◌, ◌/◌, ◌%◌, ◌^◌, ◌<◌, ◌≤◌, ap, sym, ◌∙◌, arith, add-one, refl, Some, Bool, true, false, ◌++◌, List, [], ◌∷◌}
use Rattle.std.specs.Char.{is_ascii_digit}
use Rattle.std.proofs.lemmas.Grind.{common_steps}
use Rattle.std.proofs.lemmas.Nat.{pow-add, div-add-mod'}
use Rattle.std.proofs.Common.{length, get_or, append_assoc, length-append, nat_lt, ◌==◌, option_map}
use Rattle.std.specs.Fmt.{decimal}
use Rattle.std.proofs.lemmas.Fmt.{decimal_by_steps_wide}
use Rattle.std.proofs.Math.Nat.{one-le-pow}
use Rattle.std.proofs.lemmas.Nat.{div_below}
use Rattle.lin_values.specs.declared.decimals.Decimal.{Decimal}
use Rattle.lin_values.specs.Value.{with_sign, scaled_value, IsReadable}
use Rattle.lin_values.proofs.Places.{unsigned-is}
use Rattle.lin_values.specs.Shown.{last_digits, fraction, sign, decimal_shown}
use Rattle.lin_values.specs.Read.{places_after, whole_after, unsigned_number, signed_number}
use Rattle.lin_values.proofs.Powers.{first-digit, rest-below}

digit-of : (k : ℕ) → k < 10 → is_ascii_digit (48 + k) ≡ true
digit-of k h = grind (arith, common_steps)

-- n is cut into its first digit and the rest, each times u
cut : (a r p u m n : ℕ) → a * p + r ≡ n → m + a * (p * u) + r * u ≡ m + n * u
cut a r p u m n e = omega (arith, ap (λ x. x * u) e)

cut-whole : (a r p u n : ℕ) → a * p + r ≡ n → a * (p * u) + r * u ≡ n * u
cut-whole a r p u n e = omega (arith, ap (λ x. x * u) e)

-- the last k digits of n spell n
pub places-again : (k left m n : ℕ) → k ≤ left → n < 10 ^ k → places_after m left (last_digits k n) ≡ Some (m + n * 10 ^ (left - k))
places-again zero left m n h l =
    let z : n ≡ 0 = omega arith in ap Some (rw z (omega arith))
places-again (suc k) zero m n h l = absurd (omega arith)
places-again (suc k) (suc j) m n h l =
    let q = n / 10 ^ k in
    let small : n < 10 ^ (k + 1) = rw add-one l in
    let digit : is_ascii_digit (48 + n / 10 ^ k) ≡ true = digit-of q (first-digit k n small) in
    let whole : k + (j - k) ≡ j = omega arith in
    let tens : 10 ^ j ≡ 10 ^ k * 10 ^ (j - k) = ap (λ i. 10 ^ i) (sym whole) ∙ pow-add 10 k (j - k) in
    let e : 48 + n / 10 ^ k - 48 ≡ n / 10 ^ k = omega arith in
    let f : suc j - suc k ≡ j - k = omega arith in
    rw digit (places-again k j (m + (48 + n / 10 ^ k - 48) * 10 ^ j) (n % 10 ^ k) (omega arith) (rest-below k n)
    ∙ ap Some (rw (e, f, tens) (cut q (n % 10 ^ k) (10 ^ k) (10 ^ (j - k)) m n (div-add-mod' n (10 ^ k)))))

-- the digits of w, and then what follows
record Leads (w : ℕ) (ds : List ℕ) : Type 0 where
  some : 0 < length ds
  first : is_ascii_digit (get_or ds 0 0) ≡ true
  goes_on : (rest : List ℕ) → whole_after 0 (ds ++ rest) ≡ whole_after w rest

digit-next : (m k : ℕ) (rest : List ℕ) → k < 10 → whole_after m ((48 + k) ∷ rest) ≡ whole_after (m * 10 + k) rest
digit-next m k rest h =
    let d : is_ascii_digit (48 + k) ≡ true = digit-of k h in
    let e : 48 + k - 48 ≡ k = omega arith in
    rw (d, e) refl

leads-one : (k : ℕ) → k < 10 → Leads k ((48 + k) ∷ [])
leads-one k h = record { some = omega arith; first = digit-of k h; goes_on = λ rest. let e : 0 * 10 + k ≡ k = omega arith in digit-next 0 k rest h ∙ rw e refl }

first-kept : (ds es : List ℕ) → 0 < length ds → get_or (ds ++ es) 0 0 ≡ get_or ds 0 0
first-kept [] es h = absurd (omega arith)
first-kept (d ∷ ds) es h = refl

leads-more : (k : ℕ) (ds : List ℕ) → 10 ≤ k → Leads (k / 10) ds → Leads k (ds ++ ((48 + k % 10) ∷ []))
leads-more k ds big ih = record {
  some = omega (arith, ih.some, length-append {A = ℕ});
  first = rw (first-kept ds ((48 + k % 10) ∷ []) ih.some) ih.first;
  goes_on = λ rest.
      let e : k / 10 * 10 + k % 10 ≡ k = omega arith in
      ap (whole_after 0) (append_assoc ds ((48 + k % 10) ∷ []) rest) ∙ ih.goes_on ((48 + k % 10) ∷ rest) ∙ digit-next (k / 10) (k % 10) rest (omega arith) ∙ ap (λ w. whole_after w rest) e;
}

leads : (w : ℕ) → w < 10 ^ 64 → Leads w (decimal w)
leads w h = decimal_by_steps_wide Leads leads-one leads-more w h

places-follow : (w p r : ℕ) → w < 10 ^ 14 → p ≤ 24 → r < 10 ^ p → whole_after w (fraction p r) ≡ Some (w * 10 ^ 24 + r * 10 ^ (24 - p))
places-follow w zero r h l s =
    let t : nat_lt w (10 ^ 14) ≡ true = grind (arith, common_steps) in
    let z : r ≡ 0 = omega arith in
    rw (t, z) (ap Some (omega arith))
places-follow w (suc k) r h l s =
    let t : nat_lt w (10 ^ 14) ≡ true = grind (arith, common_steps) in
    let u : nat_lt 0 (length (last_digits (suc k) r)) ≡ true = grind (arith, common_steps) in
    rw (t, u) (places-again (suc k) 24 (w * 10 ^ 24) r l s)

-- no sign before a digit
digit-sign : (c : ℕ) → is_ascii_digit c ≡ true → ((c == 45) ≡ false) × ((c == 43) ≡ false)
digit-sign c h = (grind (arith, common_steps), grind (arith, common_steps))

spelled-plain : (cs : List ℕ) (u : ℕ) → 0 < length cs → is_ascii_digit (get_or cs 0 0) ≡ true → unsigned_number cs ≡ Some u → signed_number cs ≡ Some (with_sign false u)
spelled-plain [] u h d e = absurd (omega arith)
spelled-plain (c ∷ cs) u h d e =
    let s = digit-sign c d in
    rw (s.0, s.1) (ap (λ x. option_map (with_sign false) x) e)

spelled-signed : (b : Bool) (cs : List ℕ) (u : ℕ) → 0 < length cs → is_ascii_digit (get_or cs 0 0) ≡ true → unsigned_number cs ≡ Some u → signed_number (sign b ++ cs) ≡ Some (with_sign b u)
spelled-signed true cs u h d e = ap (λ x. option_map (with_sign true) x) e
spelled-signed false cs u h d e = spelled-plain cs u h d e

-- the text of a decimal is read as its value
pub shown-is-read : (d : Decimal) → IsReadable d → signed_number (decimal_shown d) ≡ Some (scaled_value d)
shown-is-read d h =
    let p = d.places in
    let n = d.digits in
    let w = n / 10 ^ p in
    let r = n % 10 ^ p in
    let small : n / 10 ^ p < 10 ^ 14 = div_below n (10 ^ p) (10 ^ 14) (one-le-pow p 10 (omega arith)) (rw (← pow-add 10 14 p) h.1) in
    let front = leads w (omega arith) in
    let text = decimal w ++ fraction p r in
    let some : 0 < length (decimal w ++ fraction p r) = omega (arith, front.some, length-append {A = ℕ}) in
    let first : is_ascii_digit (get_or (decimal w ++ fraction p r) 0 0) ≡ true = rw (first-kept (decimal w) (fraction p r) front.some) front.first in
    let whole : p + (24 - p) ≡ 24 = omega (arith, h.0) in
    let tens : 10 ^ 24 ≡ 10 ^ p * 10 ^ (24 - p) = ap (λ i. 10 ^ i) (sym whole) ∙ pow-add 10 p (24 - p) in
    let units : w * 10 ^ 24 + r * 10 ^ (24 - p) ≡ n * 10 ^ (24 - p) = ap (λ t. w * t + r * 10 ^ (24 - p)) tens ∙ cut-whole w r (10 ^ p) (10 ^ (24 - p)) n (div-add-mod' n (10 ^ p)) in
    spelled-signed d.negative text (n * 10 ^ (24 - p)) some first
    (unsigned-is text (n * 10 ^ (24 - p)) some first (front.goes_on (fraction p r) ∙ places-follow w p r small h.0 (rest-below p n) ∙ ap Some units))
