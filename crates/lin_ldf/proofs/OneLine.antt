-- Only a text, of all tokens, can have line feeds in it: any other lies on one line.
use Rattle.std.proofs.Common.{◌≡◌, ℕ, ◌+◌, ◌≤◌, Bool, true, false, not, cond, eqb, List, [], ◌∷◌, length, take, refl, sym, ap, ◌∙◌, subst, arith, inl, inr, true≢false}
use Rattle.std.specs.List.{list_all}
use Rattle.std.proofs.lemmas.Bool.{and_parts, or_cases, true_from_ne_false}
use Rattle.std.proofs.lemmas.Bool.Decides.{nat_tests}
use Rattle.std.proofs.lemmas.List.{length-take}
use Rattle.std.proofs.lemmas.List.Folds.{list_all-append}
use Rattle.lin_ldf.specs.Bytes.{is_letter, is_digit, is_hex_digit, is_word_byte, is_visible, is_not_newline}
use Rattle.lin_ldf.specs.Symbols.{is_kind}
use Rattle.lin_ldf.specs.Scanning.{front_piece}
use Rattle.lin_ldf.specs.Advance.{place_behind}
use Rattle.lin_ldf.specs.Tokens.{IsAll, IsToken}
use Rattle.lin_ldf.specs.declared.token.TokenKind.{TokenKind}
use Rattle.lin_ldf.specs.declared.token.TokenKind.TheVariants.{Word, Number, Text, OpenBrace, CloseBrace, Colon, Semicolon, Comma, Equals, Other}
use Rattle.lin_ldf.specs.declared.lexer.Scanned.TheVariants as pieces
use Rattle.lin_parts.specs.declared.place.Location.{Location}
use Rattle.lin_ldf.proofs.Runs.{run_all}
use Rattle.lin_ldf.proofs.Pieces.{Found, found}

-- ---- bytes

visible : (c : ℕ) → is_visible c ≡ true → is_not_newline c ≡ true
visible c v = true_from_ne_false (is_not_newline c) (λ n. grind (arith, nat_tests))

letter : (c : ℕ) → is_letter c ≡ true → is_not_newline c ≡ true
letter c l = true_from_ne_false (is_not_newline c) (λ n. grind (arith, nat_tests))

digit : (c : ℕ) → is_digit c ≡ true → is_not_newline c ≡ true
digit c d = true_from_ne_false (is_not_newline c) (λ n. grind (arith, nat_tests))

word_byte : (c : ℕ) → is_word_byte c ≡ true → is_not_newline c ≡ true
word_byte c w = elim (or_cases (is_letter c) (is_digit c) w) [ inl l ↦ letter c l | inr d ↦ digit c d ]

hex_digit : (c : ℕ) → is_hex_digit c ≡ true → is_not_newline c ≡ true
hex_digit c h = true_from_ne_false (is_not_newline c) (λ n. grind (arith, nat_tests))

-- ---- texts

all_as : (p q : ℕ → Bool) → ((c : ℕ) → p c ≡ true → q c ≡ true) → (w : List ℕ) → IsAll p w → IsAll q w
all_as p q step [] h = refl
all_as p q step (c ∷ cs) h =
    let parts = and_parts (p c) (list_all p cs) h in
    rw (step c parts.0) (all_as p q step cs parts.1)

-- a token that is no text has no line feed
plain : (k : TokenKind) (w : List ℕ) → is_kind Text k ≡ false → IsToken k w → IsAll is_not_newline w
plain Word w other (c, cs, e, l, h) = rw (e, letter c l) (all_as is_word_byte is_not_newline word_byte cs h)
plain Number w other (inl (inl run)) = all_as is_digit is_not_newline digit w (run_all is_digit w run)
plain Number w other (inl (inr (whole, fraction, e, first, second))) =
    rw (e, list_all-append is_not_newline whole (46 ∷ fraction), all_as is_digit is_not_newline digit whole (run_all is_digit whole first)) (all_as is_digit is_not_newline digit fraction (run_all is_digit fraction second))
plain Number w other (inr (digits, inl e, run)) = rw e (all_as is_hex_digit is_not_newline hex_digit digits (run_all is_hex_digit digits run))
plain Number w other (inr (digits, inr e, run)) = rw e (all_as is_hex_digit is_not_newline hex_digit digits (run_all is_hex_digit digits run))
plain Text w other h = absurd (true≢false other)
plain OpenBrace w other e = rw e refl
plain CloseBrace w other e = rw e refl
plain Colon w other e = rw e refl
plain Semicolon w other e = rw e refl
plain Comma w other e = rw e refl
plain Equals w other e = rw e refl
plain Other w other (c, e, v, b, m, q) = rw (e, visible c v) refl

-- ---- places

abbrev place : ℕ → ℕ → Location
place l k = record { line = l; column = k }

-- bytes without a line feed move the column alone
along : (p : Location) (w : List ℕ) → IsAll is_not_newline w → place_behind p w ≡ place p.line (p.column + length w)
along p [] h = let same : p.column ≡ p.column + 0 = omega arith in ap (λ (k : ℕ). place p.line k) same
along p (c ∷ cs) h =
    let parts = and_parts (is_not_newline c) (list_all is_not_newline cs) h in
    let same : p.column + 1 + length cs ≡ p.column + length (c ∷ cs) = omega arith in
    elim (eqb c 10) as (λ b. not b ≡ true → place_behind (cond b (place (p.line + 1) 1) (place p.line (p.column + 1))) cs ≡ place p.line (p.column + length (c ∷ cs))) [
      | true ↦ λ n. absurd (true≢false (sym n))
      | false ↦ λ n. along (place p.line (p.column + 1)) cs parts.1 ∙ ap (λ (k : ℕ). place p.line k) same
    ] parts.0

pub one_line : (p : Location) (text : List ℕ) (k : TokenKind) (n : ℕ) → is_kind Text k ≡ false → n ≤ length text → front_piece text ≡ pieces.Token k n → place_behind p (take n text) ≡ place p.line (p.column + n)
one_line p [] k n other within e = absurd cc
one_line p (c ∷ cs) k n other within e =
    let piece = subst (λ s. Found s (c ∷ cs)) e (found c cs) in
    let size : length (take n (c ∷ cs)) ≡ n = omega (arith, length-take n (c ∷ cs)) in
    along p (take n (c ∷ cs)) (plain k (take n (c ∷ cs)) other piece.form) ∙ ap (λ (m : ℕ). place p.line (p.column + m)) size
