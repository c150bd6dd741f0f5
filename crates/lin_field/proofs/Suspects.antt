-- Where no mark is a suspect, none is left out.
use Rattle.std.proofs.Common.{◌≡◌, ℕ, zero, suc, ◌+◌, ◌<◌, ◌≤◌, Bool, true, false, cond, List, [], ◌∷◌, ◌++◌, length, take, drop, get_or, Option, Some, None, refl, sym, ap, subst, ◌∙◌, inl, inr, ◌⊎◌, arith, true≢false, length-drop, drop-cons}
use Rattle.std.proofs.lemmas.Bool.{eqb-true}
use Rattle.std.specs.Prelude.{◌==◌, ◌&&◌, ◌||◌}
use Rattle.std.proofs.lemmas.List.{take-append-drop}
use Rattle.memchr.specs.Find.{IsFirstByte, is_byte2}
use Rattle.lin_ldf.specs.Bytes.{is_separator}
use Rattle.lin_ldf.specs.Tokens.{IsForm, IsToken, Piece, IsCut, token_of, tokens_of, AreTokens, line_after, column_after, mark_len, behind_mark}
use Rattle.lin_ldf.specs.declared.token.Token.{Token}
use Rattle.lin_ldf.specs.declared.token.TokenKind.{TokenKind}
use Rattle.lin_ldf.specs.declared.token.TokenKind.TheVariants as kinds
use Rattle.lin_field.specs.Marks.{is_extra, extra_in}
use Rattle.lin_field.specs.Suspects.{behind_separators, is_suspect, has_suspect}
use Rattle.lin_field.proofs.ExtraSteps.{extra_behind, nothing_behind}

-- ---- the search

neither : (a b : Bool) → (a || b) ≡ false → (a ≡ false) × (b ≡ false)
neither true b e = absurd cc
neither false b e = (refl, e)

not_true : (b : Bool) → (b ≡ true → ⊥) → b ≡ false
not_true true h = absurd (h refl)
not_true false h = refl

either_true : (a b : Bool) → (a || b) ≡ true → (a ≡ true) ⊎ (b ≡ true)
either_true true b e = inl refl
either_true false b e = inr e

separator_no_mark : (c : ℕ) → is_separator c ≡ true → is_byte2 0x2C 0x3B c ≡ false
separator_no_mark c e = not_true (is_byte2 0x2C 0x3B c) (λ m. elim (either_true (c == 0x2C) (c == 0x3B) m) [
  | inl h ↦ true≢false (sym e ∙ ap is_separator (eqb-true c 0x2C h))
  | inr h ↦ true≢false (sym e ∙ ap is_separator (eqb-true c 0x3B h))
])

-- behind separators the same is found
pub passed_over : (cs : List ℕ) → has_suspect cs ≡ has_suspect (behind_separators cs)
passed_over [] = refl
passed_over (c ∷ cs) = elim (is_separator c) as (λ b. is_separator c ≡ b → has_suspect (c ∷ cs) ≡ has_suspect (cond b (behind_separators cs) (c ∷ cs))) [
  | true ↦ λ is. rw (separator_no_mark c is) (passed_over cs)
  | false ↦ λ is. refl
] refl

pub none_found : (cs : List ℕ) → IsFirstByte (is_byte2 0x2C 0x3B) cs None → has_suspect cs ≡ false
none_found [] h = refl
none_found (c ∷ cs) h =
    rw (not_true (is_byte2 0x2C 0x3B c) (h 0 (omega arith) (omega arith))) (none_found cs (λ k low high. h (suc k) (omega arith) (omega arith)))

found_at : (cs : List ℕ) (n : ℕ) → IsFirstByte (is_byte2 0x2C 0x3B) cs (Some n)
    → has_suspect cs ≡ (is_suspect (get_or cs n 0) (behind_separators (drop (suc n) cs)) || has_suspect (behind_separators (drop (suc n) cs)))
found_at [] n h = absurd (omega (arith, h.0.high))
found_at (c ∷ cs) zero h = rw (h.1, passed_over cs) refl
found_at (c ∷ cs) (suc n) h =
    let later : IsFirstByte (is_byte2 0x2C 0x3B) cs (Some n) = (
      record {
        low = omega arith;
        high = omega (arith, h.0.high);
        before = λ k low high. h.0.before (suc k) (omega arith) (omega arith);
      },
      h.1,
    ) in
    rw (not_true (is_byte2 0x2C 0x3B c) (h.0.before 0 (omega arith) (omega arith))) (found_at cs n later)

pub one_found : (cs : List ℕ) (n : ℕ) (found next : List ℕ) → IsFirstByte (is_byte2 0x2C 0x3B) cs (Some n) → found ≡ drop n cs → next ≡ behind_separators (drop 1 found)
    → has_suspect cs ≡ (is_suspect (get_or found 0 0) next || has_suspect next)
one_found cs n found next h is next_is =
    let whole : found ≡ get_or cs n 0 ∷ drop (suc n) cs = is ∙ drop-cons cs n 0 h.0.high in
    let first : get_or found 0 0 ≡ get_or cs n 0 = ap (λ (ys : List ℕ). get_or ys 0 0) whole in
    let rest : next ≡ behind_separators (drop (suc n) cs) = next_is ∙ ap (λ (ys : List ℕ). behind_separators (drop 1 ys)) whole in
    found_at cs n h ∙ ap (λ (ys : List ℕ). is_suspect (get_or cs n 0) ys || has_suspect ys) (sym rest) ∙ ap (λ (m : ℕ). is_suspect m next || has_suspect next) (sym first)

no_more_bytes : (cs : List ℕ) → length (behind_separators cs) ≤ length cs
no_more_bytes [] = omega arith
no_more_bytes (c ∷ cs) = elim (is_separator c) as (λ b. length (cond b (behind_separators cs) (c ∷ cs)) ≤ suc (length cs)) [
  | true ↦ let h = no_more_bytes cs in omega arith
  | false ↦ omega arith
]

pub fewer_left : (cs : List ℕ) (n : ℕ) (found next : List ℕ) → IsFirstByte (is_byte2 0x2C 0x3B) cs (Some n) → found ≡ drop n cs → next ≡ behind_separators (drop 1 found) → length next < length cs
fewer_left cs n found next h is next_is =
    let size = length-drop n cs in
    let whole : length found ≡ length (drop n cs) = ap (λ (ys : List ℕ). length ys) is in
    let one = length-drop 1 found in
    let left : length next ≡ length (behind_separators (drop 1 found)) = ap (λ (ys : List ℕ). length ys) next_is in
    let less = no_more_bytes (drop 1 found) in
    omega (arith, h.0.high)

-- ---- the tokens

behind_none : (xs ys : List ℕ) → has_suspect (xs ++ ys) ≡ false → has_suspect ys ≡ false
behind_none [] ys e = e
behind_none (x ∷ xs) ys e = behind_none xs ys (neither _ _ e).1

-- what stands behind a mark of this kind makes it no suspect
abbrev IsQuiet : TokenKind → List ℕ → Type 0
IsQuiet kinds.Comma text = is_suspect 0x2C (behind_separators text) ≡ false
IsQuiet kinds.Semicolon text = is_suspect 0x3B (behind_separators text) ≡ false
IsQuiet _ text = Unit {0}

abbrev IsQuietBehind : Option Token → List ℕ → Type 0
IsQuietBehind None text = Unit {0}
IsQuietBehind (Some t) text = IsQuiet t.kind text

gap_mark : (mark : ℕ) (w after : List ℕ) → IsForm None w → is_suspect mark (behind_separators (w ++ after)) ≡ false → is_suspect mark (behind_separators after) ≡ false
gap_mark mark w after (inl (c, e, is)) h =
    let one : is_suspect mark (cond (is_separator c) (behind_separators after) (c ∷ after)) ≡ false = subst (λ (v : List ℕ). is_suspect mark (behind_separators (v ++ after)) ≡ false) e h in
    subst (λ (b : Bool). is_suspect mark (cond b (behind_separators after) (c ∷ after)) ≡ false) is one
gap_mark mark w after (inr (inl (body, e, is))) h =
    let bad : true ≡ false = subst (λ (v : List ℕ). is_suspect mark (behind_separators (v ++ after)) ≡ false) e h in absurd cc
gap_mark mark w after (inr (inr (body, e, is))) h =
    let bad : true ≡ false = subst (λ (v : List ℕ). is_suspect mark (behind_separators (v ++ after)) ≡ false) e h in absurd cc

gap_kind : (kind : TokenKind) (w after : List ℕ) → IsForm None w → IsQuiet kind (w ++ after) → IsQuiet kind after
gap_kind kinds.Comma w after form h = gap_mark 0x2C w after form h
gap_kind kinds.Semicolon w after form h = gap_mark 0x3B w after form h
gap_kind kinds.Word w after form h = tt
gap_kind kinds.Number w after form h = tt
gap_kind kinds.Text w after form h = tt
gap_kind kinds.OpenBrace w after form h = tt
gap_kind kinds.CloseBrace w after form h = tt
gap_kind kinds.Colon w after form h = tt
gap_kind kinds.Equals w after form h = tt
gap_kind kinds.Other w after form h = tt

gap_behind : (last : Option Token) (w after : List ℕ) → IsForm None w → IsQuietBehind last (w ++ after) → IsQuietBehind last after
gap_behind None w after form h = tt
gap_behind (Some t) w after form h = gap_kind t.kind w after form h

-- a semicolon or a closing brace makes a suspect
seen_at : (mark : ℕ) (w v after : List ℕ) → w ≡ v → is_suspect mark (behind_separators (w ++ after)) ≡ false → is_suspect mark (behind_separators (v ++ after)) ≡ false
seen_at mark w v after e h = subst (λ (x : List ℕ). is_suspect mark (behind_separators (x ++ after)) ≡ false) e h

behind_comma : (behind : TokenKind) (w after : List ℕ) → IsToken behind w → IsQuiet kinds.Comma (w ++ after) → is_extra kinds.Comma behind ≡ false
behind_comma kinds.Semicolon w after form h = let bad : true ≡ false = seen_at 0x2C w (0x3B ∷ []) after form h in absurd cc
behind_comma kinds.CloseBrace w after form h = let bad : true ≡ false = seen_at 0x2C w (0x7D ∷ []) after form h in absurd cc
behind_comma kinds.Word w after form h = refl
behind_comma kinds.Number w after form h = refl
behind_comma kinds.Text w after form h = refl
behind_comma kinds.OpenBrace w after form h = refl
behind_comma kinds.Colon w after form h = refl
behind_comma kinds.Comma w after form h = refl
behind_comma kinds.Equals w after form h = refl
behind_comma kinds.Other w after form h = refl

behind_semicolon : (behind : TokenKind) (w after : List ℕ) → IsToken behind w → IsQuiet kinds.Semicolon (w ++ after) → is_extra kinds.Semicolon behind ≡ false
behind_semicolon kinds.Semicolon w after form h = let bad : true ≡ false = seen_at 0x3B w (0x3B ∷ []) after form h in absurd cc
behind_semicolon kinds.CloseBrace w after form h = refl
behind_semicolon kinds.Word w after form h = refl
behind_semicolon kinds.Number w after form h = refl
behind_semicolon kinds.Text w after form h = refl
behind_semicolon kinds.OpenBrace w after form h = refl
behind_semicolon kinds.Colon w after form h = refl
behind_semicolon kinds.Comma w after form h = refl
behind_semicolon kinds.Equals w after form h = refl
behind_semicolon kinds.Other w after form h = refl

not_extra : (kind behind : TokenKind) (w after : List ℕ) → IsToken behind w → IsQuiet kind (w ++ after) → is_extra kind behind ≡ false
not_extra kinds.Comma behind w after form h = behind_comma behind w after form h
not_extra kinds.Semicolon behind w after form h = behind_semicolon behind w after form h
not_extra kinds.Word behind w after form h = refl
not_extra kinds.Number behind w after form h = refl
not_extra kinds.Text behind w after form h = refl
not_extra kinds.OpenBrace behind w after form h = refl
not_extra kinds.CloseBrace behind w after form h = refl
not_extra kinds.Colon behind w after form h = refl
not_extra kinds.Equals behind w after form h = refl
not_extra kinds.Other behind w after form h = refl

token_behind : (last : Option Token) (u : Token) (us : List Token) (w after : List ℕ) → IsToken u.kind w → IsQuietBehind last (w ++ after) → extra_behind last (u ∷ us) ≡ extra_behind (Some u) us
token_behind None u us w after form h = refl
token_behind (Some t) u us w after form h = rw (not_extra t.kind u.kind w after form h) refl

-- a token of the text is no suspect
mark_quiet : (mark : ℕ) (w after : List ℕ) → w ≡ mark ∷ [] → is_byte2 0x2C 0x3B mark ≡ true → has_suspect (w ++ after) ≡ false → is_suspect mark (behind_separators after) ≡ false
mark_quiet mark w after e is h =
    let whole : ((is_byte2 0x2C 0x3B mark && is_suspect mark (behind_separators after)) || has_suspect after) ≡ false = subst (λ (v : List ℕ). has_suspect (v ++ after) ≡ false) e h in
    (neither _ _ (subst (λ (b : Bool). ((b && is_suspect mark (behind_separators after)) || has_suspect after) ≡ false) is whole)).0

token_quiet : (kind : TokenKind) (w after : List ℕ) → IsToken kind w → has_suspect (w ++ after) ≡ false → IsQuiet kind after
token_quiet kinds.Comma w after form h = mark_quiet 0x2C w after form refl h
token_quiet kinds.Semicolon w after form h = mark_quiet 0x3B w after form refl h
token_quiet kinds.Word w after form h = tt
token_quiet kinds.Number w after form h = tt
token_quiet kinds.Text w after form h = tt
token_quiet kinds.OpenBrace w after form h = tt
token_quiet kinds.CloseBrace w after form h = tt
token_quiet kinds.Colon w after form h = tt
token_quiet kinds.Equals w after form h = tt
token_quiet kinds.Other w after form h = tt

abbrev NoneLeft : ℕ → List Piece → Type 0
NoneLeft skipped ps = (last : Option Token) (before text : List ℕ) → IsCut text ps [] → has_suspect text ≡ false → IsQuietBehind last text → extra_behind last (tokens_of skipped before ps) ≡ []

one_piece : (skipped : ℕ) (kind : Option TokenKind) (w : List ℕ) (ps : List Piece) → NoneLeft skipped ps → (last : Option Token) (before after : List ℕ) → IsForm kind w → IsCut after ps []
    → has_suspect (w ++ after) ≡ false → IsQuietBehind last (w ++ after) → extra_behind last (token_of skipped before (record { kind = kind; text = w }) ++ tokens_of skipped (before ++ w) ps) ≡ []
one_piece skipped None w ps others last before after form cut none quiet =
    others last (before ++ w) after cut (behind_none w after none) (gap_behind last w after form quiet)
one_piece skipped (Some k) w ps others last before after form cut none quiet =
    let u : Token = record { kind = k; start = skipped + length before; end = skipped + length before + length w; line = line_after before; column = column_after before } in
    token_behind last u (tokens_of skipped (before ++ w) ps) w after form quiet
    ∙ others (Some u) (before ++ w) after cut (behind_none w after none) (token_quiet k w after form none)

none_left : (skipped : ℕ) (ps : List Piece) → NoneLeft skipped ps
none_left skipped [] last before text cut none quiet = nothing_behind last
none_left skipped (p ∷ ps) last before text (after, split, piece, cut) none quiet =
    one_piece skipped p.kind p.text ps (none_left skipped ps) last before after piece.form cut
    (subst (λ (t : List ℕ). has_suspect t ≡ false) split none) (subst (IsQuietBehind last) split quiet)

pub no_extra : (source : List ℕ) → has_suspect source ≡ false → (ts : List Token) → AreTokens source ts → extra_in ts ≡ []
no_extra source none ts (ps, cut, e) =
    let n : ℕ = mark_len source in
    let behind : has_suspect (behind_mark source) ≡ false =
    behind_none (take n source) (drop n source) (subst (λ (s : List ℕ). has_suspect s ≡ false) (sym (take-append-drop n source)) none) in
    ap extra_in e ∙ none_left n ps None [] (behind_mark source) cut behind tt
