-- A space in the place of each mark that a text has too many: its tokens are the mended ones.
use Rattle.std.proofs.Common.{◌≡◌, ℕ, true, false, cond, List, [], ◌∷◌, ◌++◌, Option, None, refl, sym, ap, ◌∙◌, inl, inr, append_assoc}
use Rattle.std.specs.Prelude.{if◌then◌else◌}
use Rattle.std.proofs.lemmas.List.{map-append}
use Rattle.lin_ldf.specs.Symbols.{Symbol, symbol_in, symbols_in}
use Rattle.lin_ldf.specs.Stream.{Ahead, start_of}
use Rattle.lin_ldf.specs.Tokens.{AreTokens, mark_len, behind_mark}
use Rattle.lin_ldf.specs.declared.token.Token.{Token}
use Rattle.lin_ldf.specs.declared.token.TokenKind.{TokenKind}
use Rattle.lin_ldf.specs.declared.fault.LdfFault.{LdfFault}
use Rattle.lin_ldf.specs.declared.token.TokenKind.TheVariants as kinds
use Rattle.lin_ldf.proofs.Unique.{same_tokens}
use Rattle.lin_ldf.proofs.Outcomes.{outcome}
use Rattle.lin_ldf.proofs.Parsed.{no_fault}
use Rattle.lin_field.specs.Marks.{is_extra, without_extra_marks, extra_after, extra_in, blank_at, text_with_blanks}
use Rattle.lin_ldf.proofs.Blanks.{clean, IsMarkKind, blanked_once}

clean_of : (r : Ahead) (ts : List Token) → r.tokens ≡ ts → r.fault ≡ None → r ≡ clean ts
clean_of r ts e f =
    let whole : r ≡ clean r.tokens = ap (λ (x : Option LdfFault). record { tokens = r.tokens; fault = x }) f in
    whole ∙ ap clean e

-- the tokens of a text are what is ahead in it
start_clean : (source : List ℕ) (ts : List Token) → AreTokens source ts → start_of source ≡ clean ts
start_clean source ts are = elim (outcome source) [
  | inl (are', none) ↦ clean_of (start_of source) ts (same_tokens (mark_len source) (behind_mark source) _ ts are' are) none
  | inr (f, is, other, some, us, p, same) ↦ absurd (no_fault source ts are f is other)
]

kept_after : Token → List Token → List Token
kept_after t [] = t ∷ []
kept_after t (u ∷ ts) = if is_extra t.kind u.kind then kept_after u ts else t ∷ kept_after u ts

kept_mended : (source : List ℕ) (t : Token) (ts : List Token) → symbols_in source (kept_after t ts) ≡ without_extra_marks (symbols_in source (t ∷ ts))
unfolding kept_after
kept_mended source t [] = refl
kept_mended source t (u ∷ ts) =
    let others = kept_mended source u ts in
    elim (is_extra t.kind u.kind) as (λ b. symbols_in source (cond b (kept_after u ts) (t ∷ kept_after u ts)) ≡ cond b (without_extra_marks (symbols_in source (u ∷ ts))) (symbol_in source t ∷ without_extra_marks (symbols_in source (u ∷ ts)))) [
      | true ↦ others
      | false ↦ ap (λ (ss : List Symbol). symbol_in source t ∷ ss) others
    ]

extra_kind : (kind behind : TokenKind) → is_extra kind behind ≡ true → IsMarkKind kind
extra_kind kinds.Word behind e = absurd cc
extra_kind kinds.Number behind e = absurd cc
extra_kind kinds.Text behind e = absurd cc
extra_kind kinds.OpenBrace behind e = absurd cc
extra_kind kinds.CloseBrace behind e = absurd cc
extra_kind kinds.Colon behind e = absurd cc
extra_kind kinds.Semicolon behind e = inr refl
extra_kind kinds.Comma behind e = inl refl
extra_kind kinds.Equals behind e = absurd cc
extra_kind kinds.Other behind e = absurd cc

-- with spaces in the place of these marks, these tokens are left, which are seen so
record Blanks (source : List ℕ) (marks kept : List Token) (seen : List Symbol) : Type 0 where
  ahead : start_of (text_with_blanks source marks) ≡ clean kept
  symbols : symbols_in (text_with_blanks source marks) kept ≡ seen

blanks : (ts : List Token) (source : List ℕ) (before : List Token) (t : Token) → start_of source ≡ clean (before ++ t ∷ ts)
    → Blanks source (extra_after t ts) (before ++ kept_after t ts) (symbols_in source before ++ symbols_in source (kept_after t ts))
unfolding kept_after
blanks [] source before t e = record { ahead = e; symbols = map-append (symbol_in source) before (t ∷ []) }
blanks (u ∷ ts) source before t e =
    elim (is_extra t.kind u.kind) as (λ b. is_extra t.kind u.kind ≡ b → Blanks source (cond b (t ∷ extra_after u ts) (extra_after u ts)) (before ++ cond b (kept_after u ts) (t ∷ kept_after u ts)) (symbols_in source before ++ symbols_in source (cond b (kept_after u ts) (t ∷ kept_after u ts)))) [
      | true ↦ λ is.
          let one = blanked_once source before t (u ∷ ts) (extra_kind t.kind u.kind is) e in
          let rest = blanks ts (blank_at source t) before u one.ahead in
          let seen : symbols_in (blank_at source t) (kept_after u ts) ≡ symbols_in source (kept_after u ts) =
          kept_mended (blank_at source t) u ts ∙ ap without_extra_marks one.right ∙ sym (kept_mended source u ts) in
          record {
            ahead = rest.ahead;
            symbols = rest.symbols ∙ ap (λ (ss : List Symbol). ss ++ symbols_in (blank_at source t) (kept_after u ts)) one.left ∙ ap (λ (ss : List Symbol). symbols_in source before ++ ss) seen;
          }
      | false ↦ λ is.
          let whole : start_of source ≡ clean ((before ++ t ∷ []) ++ u ∷ ts) = e ∙ ap clean (sym (append_assoc before (t ∷ []) (u ∷ ts))) in
          let rest = blanks ts source (before ++ t ∷ []) u whole in
          let split : (before ++ t ∷ []) ++ kept_after u ts ≡ before ++ t ∷ kept_after u ts = append_assoc before (t ∷ []) (kept_after u ts) in
          record {
            ahead = rest.ahead ∙ ap clean split;
            symbols = ap (symbols_in (text_with_blanks source (extra_after u ts))) (sym split) ∙ rest.symbols
                ∙ ap (λ (ss : List Symbol). ss ++ symbols_in source (kept_after u ts)) (map-append (symbol_in source) before (t ∷ []))
                ∙ append_assoc (symbols_in source before) (symbol_in source t ∷ []) (symbols_in source (kept_after u ts));
          }
    ] refl

-- what the parser sees of a text with spaces in the place of those marks
pub marks_blanked : (source : List ℕ) (ts : List Token) → AreTokens source ts
    → symbols_in (text_with_blanks source (extra_in ts)) (start_of (text_with_blanks source (extra_in ts))).tokens ≡ without_extra_marks (symbols_in source ts)
marks_blanked source [] are = ap (λ (r : Ahead). symbols_in source r.tokens) (start_clean source [] are)
marks_blanked source (t ∷ ts) are =
    let all = blanks ts source [] t (start_clean source (t ∷ ts) are) in
    ap (λ (r : Ahead). symbols_in (text_with_blanks source (extra_after t ts)) r.tokens) all.ahead ∙ all.symbols ∙ kept_mended source t ts
