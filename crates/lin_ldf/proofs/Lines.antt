-- Line feeds of a piece, and the place after each.
use Rattle.std.proofs.Common.{◌≡◌, ℕ, suc, ◌+◌, ◌<◌, ◌≤◌, Bool, true, false, not, cond, eqb, List, [], ◌∷◌, length, drop, ◌||◌, nat_lt, Some, None, refl, sym, ap, subst, ◌∙◌, arith}
use Rattle.std.specs.List.{prefix_len, list_any}
use Rattle.std.proofs.lemmas.List.Sums.{prefix_len_is}
use Rattle.std.proofs.lemmas.Bool.Decides.{nat_tests}
use Rattle.memchr.specs.Find.{IsFirstByte, is_byte}
use Rattle.lin_ldf.specs.Bytes.{is_not_newline}
use Rattle.lin_ldf.specs.Advance.{place_behind}
use Rattle.lin_parts.specs.declared.place.Location.{Location}

not_true : (b : Bool) → (b ≡ true → ⊥) → not b ≡ true
not_true true h = absurd (h refl)
not_true false h = refl

pub no_such_byte : (b : ℕ) (xs : List ℕ) → IsFirstByte (is_byte b) xs None → length xs ≡ prefix_len (λ c. not (eqb c b)) xs
no_such_byte b xs h = sym (prefix_len_is _ xs (length xs) 0 (omega arith) (λ k l. not_true _ (h k (omega arith) l)) (λ l. absurd (omega arith)))

pub first_such_byte : (b : ℕ) (xs : List ℕ) (n : ℕ) → IsFirstByte (is_byte b) xs (Some n) → n ≡ prefix_len (λ c. not (eqb c b)) xs
first_such_byte b xs n h = sym (prefix_len_is _ xs n 0 (omega (arith, h.0.high)) (λ k l. not_true _ (h.0.before k (omega arith) l)) (λ l. ap not h.1))

-- a byte stands in a text where fewer bytes stand before it than in all
pub byte_stands : (b : ℕ) (xs : List ℕ) → list_any (λ c. eqb c b) xs ≡ nat_lt (prefix_len (λ c. not (eqb c b)) xs) (length xs)
byte_stands b [] = refl
byte_stands b (x ∷ xs) =
    elim (eqb x b) as (λ a. (a || list_any (λ c. eqb c b) xs) ≡ nat_lt (cond (not a) (1 + prefix_len (λ c. not (eqb c b)) xs) 0) (suc (length xs))) [
      | true ↦ grind (arith, nat_tests)
      | false ↦ let h = byte_stands b xs in grind (arith, nat_tests)
    ]

abbrev place : ℕ → ℕ → Location
place l k = record { line = l; column = k }

abbrev line_of : List ℕ → ℕ
line_of cs = prefix_len is_not_newline cs

next : (p : Location) (rest : List ℕ) → 1 ≤ length (drop (line_of rest) rest) → place_behind p rest ≡ place_behind (place (p.line + 1) 1) (drop 1 (drop (line_of rest) rest))
next p [] h = absurd (omega arith)
next p (x ∷ xs) h =
    elim (eqb x 10) as (λ b. 1 ≤ length (drop (cond (not b) (1 + line_of xs) 0) (x ∷ xs)) → place_behind (cond b (place (p.line + 1) 1) (place p.line (p.column + 1))) xs ≡ place_behind (place (p.line + 1) 1) (drop 1 (drop (cond (not b) (1 + line_of xs) 0) (x ∷ xs)))) [
      | true ↦ λ g. refl
      | false ↦
          let one : suc (line_of xs) ≡ 1 + line_of xs = omega arith in
          subst (λ (k : ℕ). 1 ≤ length (drop k (x ∷ xs)) → place_behind (place p.line (p.column + 1)) xs ≡ place_behind (place (p.line + 1) 1) (drop 1 (drop k (x ∷ xs)))) one (next (place p.line (p.column + 1)) xs)
    ] h

last : (p : Location) (rest : List ℕ) → length (drop (line_of rest) rest) < 1 → place_behind p rest ≡ place p.line (p.column + length rest)
last p [] h = let same : p.column ≡ p.column + 0 = omega arith in ap (λ (k : ℕ). place p.line k) same
last p (x ∷ xs) h =
    elim (eqb x 10) as (λ b. length (drop (cond (not b) (1 + line_of xs) 0) (x ∷ xs)) < 1 → place_behind (cond b (place (p.line + 1) 1) (place p.line (p.column + 1))) xs ≡ place p.line (p.column + suc (length xs))) [
      | true ↦ λ g. absurd (omega (arith, g))
      | false ↦
          let one : suc (line_of xs) ≡ 1 + line_of xs = omega arith in
          let same : p.column + 1 + length xs ≡ p.column + suc (length xs) = omega arith in
          subst (λ (k : ℕ). length (drop k (x ∷ xs)) < 1 → place_behind (place p.line (p.column + 1)) xs ≡ place p.line (p.column + suc (length xs))) one
          (λ g. last (place p.line (p.column + 1)) xs g ∙ ap (λ (k : ℕ). place p.line k) same)
    ] h

-- a line feed is found
pub next_line : (p : Location) (rest found : List ℕ) → found ≡ drop (line_of rest) rest → 1 ≤ length found → place_behind p rest ≡ place_behind (place (p.line + 1) 1) (drop 1 found)
next_line p rest found e some =
    next p rest (subst (λ (cs : List ℕ). 1 ≤ length cs) e some) ∙ ap (λ (cs : List ℕ). place_behind (place (p.line + 1) 1) (drop 1 cs)) (sym e)

-- none is left
pub last_line : (p : Location) (rest found : List ℕ) → found ≡ drop (line_of rest) rest → length found < 1 → place_behind p rest ≡ place p.line (p.column + length rest)
last_line p rest found e none = last p rest (subst (λ (cs : List ℕ). length cs < 1) e none)
