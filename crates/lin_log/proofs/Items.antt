-- The words of lines: visible, and no comments.
use Rattle.std.proofs.Common.{◌≡◌, ◌∙◌, ℕ, zero, suc, List, [], ◌∷◌, ◌++◌, refl, ap, length, ◌+◌, ◌/◌, ◌%◌, ◌^◌, ◌<◌, ◌==◌, ◌&&◌, ◌||◌, arith, Bool, true, false, not, slice_index, flat_map, codes}
use Rattle.std.specs.List.{All, list_all}
use Rattle.std.specs.Fmt.{decimal}
use Rattle.std.proofs.lemmas.Bool.{and_parts}
use Rattle.std.proofs.lemmas.Fmt.{decimal_by_steps}
use Rattle.std.proofs.lemmas.Grind.{common_steps}
use Rattle.std.proofs.lemmas.List.Elements.{All-nil, All-cons}
use Rattle.std.proofs.lemmas.List.Folds.{list_all-append}
use Rattle.hex.specs.Hex.{encode_upper, encode_with, upper_digits}
use Rattle.lin_log.specs.Words.{hex_word, spaced_word}
use Rattle.lin_log.specs.Said.{fields, is_digit, is_gap}
use Rattle.lin_log.specs.Laws.{all_visible, is_name, is_visible}
use Rattle.lin_log.proofs.Splits.{fields-front, gap-front}

-- a word of a line
pub record IsItem (w : List ℕ) : Type 0 where
  pub some : 0 < length w
  pub visible : all_visible w ≡ true
  pub said : (slice_index w 0 == 35) ≡ false

abbrev pub item : (w : List ℕ) → 0 < length w → all_visible w ≡ true → (slice_index w 0 == 35) ≡ false → IsItem w
item w a b c = record { some = a; visible = b; said = c }

pub both : (a b : Bool) → a ≡ true → b ≡ true → (a && b) ≡ true
both a b h k = rw (h, k) refl

pub and-no : (a b : Bool) → b ≡ false → (a && b) ≡ false
and-no true b h = h
and-no false b h = refl

-- what holds of all parts of a list
pub weaker : {X : Type 0} (p q : X → Bool) → ((x : X) → p x ≡ true → q x ≡ true) → (xs : List X) → list_all p xs ≡ true → list_all q xs ≡ true
weaker p q f [] h = refl
weaker p q f (x ∷ xs) h =
    let a = and_parts (p x) (list_all p xs) h in
    both (q x) (list_all q xs) (f x a.0) (weaker p q f xs a.1)

pub joined : {X : Type 0} (p : X → Bool) (xs ys : List X) → list_all p xs ≡ true → list_all p ys ≡ true → list_all p (xs ++ ys) ≡ true
joined p xs ys h k = list_all-append p xs ys ∙ both (list_all p xs) (list_all p ys) h k

pub at-place : (p : ℕ → Bool) (xs : List ℕ) (i : ℕ) → p 0 ≡ true → list_all p xs ≡ true → p (slice_index xs i) ≡ true
at-place p [] i z h = z
at-place p (x ∷ xs) zero z h = (and_parts (p x) (list_all p xs) h).0
at-place p (x ∷ xs) (suc i) z h = at-place p xs i z (and_parts (p x) (list_all p xs) h).1

visible-gap : (free : Bool) (x : ℕ) → is_visible x ≡ true → is_gap free x ≡ false
visible-gap true x h = grind (arith, common_steps)
visible-gap false x h = grind (arith, common_steps)

no-gap : (free : Bool) (w : List ℕ) → all_visible w ≡ true → All (λ x. is_gap free x ≡ false) w
no-gap free [] h = All-nil (λ x. is_gap free x ≡ false)
no-gap free (x ∷ xs) h =
    let p = and_parts (is_visible x) (all_visible xs) h in
    All-cons (λ x. is_gap free x ≡ false) x xs (visible-gap free x p.0) (no-gap free xs p.1)

-- words with one space before each
pub data AreItems : List (List ℕ) → Type 0 where
  none : AreItems []
  more : {w : List ℕ} {ws : List (List ℕ)} → IsItem w → AreItems ws → AreItems (w ∷ ws)

space-gap : (free : Bool) → is_gap free 32 ≡ true
space-gap true = refl
space-gap false = refl

pub fields-joined : (free : Bool) (w : List ℕ) (ws : List (List ℕ)) → IsItem w → AreItems ws
    → fields free (w ++ flat_map spaced_word ws) ≡ w ∷ ws
fields-joined free w [] a b =
    fields-front free w [] a.some (no-gap free w a.visible) (λ h. absurd (omega arith)) (and-no free (slice_index w 0 == 35) a.said)
fields-joined free w (x ∷ xs) a (more p q) =
    fields-front free w (32 ∷ (x ++ flat_map spaced_word xs)) a.some (no-gap free w a.visible) (λ h. space-gap free)
    (and-no free (slice_index w 0 == 35) a.said)
    ∙ ap (λ l. w ∷ l) (gap-front free 32 (x ++ flat_map spaced_word xs) (space-gap free) ∙ fields-joined free x xs p q)

-- ---- digits
abbrev pub all_digits : List ℕ → Bool
all_digits = list_all is_digit

pub record IsDigits (w : List ℕ) : Type 0 where
  pub some : 0 < length w
  pub digits : all_digits w ≡ true

pub digits-decimal : (n : ℕ) → n < 2 ^ 64 → IsDigits (decimal n)
digits-decimal n h =
    decimal_by_steps (λ k ds. IsDigits ds) (λ k small. record { some = omega arith; digits = grind (arith, common_steps) })
    (λ k ds big ih. record { some = grind (arith, common_steps, ih.some); digits = joined is_digit ds ((48 + k % 10) ∷ []) ih.digits (grind (arith, common_steps)) }) n h

digit-visible : (b : ℕ) → is_digit b ≡ true → is_visible b ≡ true
digit-visible b h = grind (arith, common_steps)

-- what a digit isn't
pub not-digit : (b : ℕ) → is_digit b ≡ true → ((b == 35) ≡ false) × ((b == 58) ≡ false) × ((b == 120) ≡ false)
not-digit b h = (grind (arith, common_steps), grind (arith, common_steps), grind (arith, common_steps))

pub first-digit : (w : List ℕ) → IsDigits w → is_digit (slice_index w 0) ≡ true
first-digit [] d = absurd (let s = d.some in omega arith)
first-digit (b ∷ bs) d = (and_parts (is_digit b) (all_digits bs) d.digits).0

no-x : (w : List ℕ) → all_digits w ≡ true → (slice_index w 0 == 120) ≡ false
no-x [] h = refl
no-x (b ∷ bs) h = (not-digit b (and_parts (is_digit b) (all_digits bs) h).0).2

pub second-digit : (w : List ℕ) → all_digits w ≡ true → (slice_index w 1 == 120) ≡ false
second-digit [] h = refl
second-digit (b ∷ bs) h = no-x bs (and_parts (is_digit b) (all_digits bs) h).1

pub item-digits : (w : List ℕ) → IsDigits w → IsItem w
item-digits w d = item w d.some (weaker is_digit is_visible digit-visible w d.digits) (not-digit (slice_index w 0) (first-digit w d)).0

-- ---- bytes
visible-table : (t : List ℕ) (d : ℕ) → all_visible t ≡ true → d < length t → is_visible (slice_index t d) ≡ true
visible-table [] d h less = absurd (omega arith)
visible-table (x ∷ t) zero h less = (and_parts (is_visible x) (all_visible t) h).0
visible-table (x ∷ t) (suc d) h less = visible-table t d (and_parts (is_visible x) (all_visible t) h).1 (omega arith)

visible-hex : (bs : List ℕ) → ((i : ℕ) → slice_index bs i < 256) → all_visible (encode_upper bs) ≡ true
unfolding encode_with
visible-hex [] h = refl
visible-hex (b ∷ bs) h =
    let small : b < 256 = h 0 in
    rw (visible-table upper_digits (b / 16) refl (omega arith), visible-table upper_digits (b % 16) refl (omega arith), visible-hex bs (λ i. h (suc i))) refl

not-said : (b : ℕ) → not (b == 35) ≡ true → (b == 35) ≡ false
not-said b h = grind (arith, common_steps)

hex-said : (b : ℕ) (bs : List ℕ) → (slice_index (encode_upper (b ∷ bs)) 0 == 35) ≡ false
unfolding encode_with
hex-said b bs = not-said (slice_index upper_digits (b / 16)) (at-place (λ x. not (x == 35)) upper_digits (b / 16) refl refl)

hex-some : (b : ℕ) (bs : List ℕ) → 0 < length (encode_upper (b ∷ bs))
unfolding encode_with
hex-some b bs = omega arith

pub item-hex : (bs : List ℕ) → ((i : ℕ) → slice_index bs i < 256) → IsItem (hex_word bs)
item-hex [] h = item (codes "-") (omega arith) refl refl
item-hex (b ∷ bs) h = item (encode_upper (b ∷ bs)) (hex-some b bs) (visible-hex (b ∷ bs) h) (hex-said b bs)

-- ---- names
no-start : (b : ℕ) → not (is_digit b || b == 35) ≡ true → (is_digit b ≡ false) × ((b == 35) ≡ false)
no-start b h = (grind (arith, common_steps), grind (arith, common_steps))

pub item-name : (w : List ℕ) → is_name w ≡ true → IsItem w × (is_digit (slice_index w 0) ≡ false)
item-name [] h = absurd (cc)
item-name (b ∷ bs) h =
    let p = and_parts (not (is_digit b || b == 35)) (all_visible (b ∷ bs)) h in
    let q = no-start b p.0 in
    (item (b ∷ bs) (omega arith) p.1 q.1, q.0)
