-- Each token of an LDF text is of its kind.
use Rattle.std.proofs.Common.{◌≡◌, ◌∙◌, ◌+◌, ◌-◌, ◌++◌, ℕ, true, List, [], ◌∷◌, refl, sym, ap, arith, append_assoc, Option, Some, None, length, drop}
use Rattle.std.specs.List.{slice_range}
use Rattle.std.proofs.Math.Seq.{drop-append_seam, take-append_seam}
use Rattle.std.proofs.lemmas.Grind.{common_steps}
use Rattle.std.proofs.lemmas.List.{drop-drop}
use Rattle.lin_ldf.specs.Bytes.{is_letter, is_word_byte}
use Rattle.lin_ldf.specs.Symbols.{Symbol, symbols_in}
use Rattle.lin_ldf.specs.Tokens.{AreTokens, IsCut, IsForm, IsToken, Piece, mark_len, token_of, tokens_of}
use Rattle.lin_ldf.specs.declared.token.Token.{Token}
use Rattle.lin_ldf.specs.declared.token.TokenKind.{TokenKind}

pub letter-byte : (b : ℕ) → is_letter b ≡ true → is_word_byte b ≡ true
letter-byte b h = grind (arith, common_steps)

abbrev pub AreOfKind : List Symbol → Type 0
AreOfKind [] = Unit {0}
AreOfKind (t ∷ ts) = IsToken t.kind t.text × AreOfKind ts

-- the text of a piece after those before it
cut-text : (source : List ℕ) (skipped : ℕ) (before w after : List ℕ) → drop skipped source ≡ before ++ (w ++ after)
    → slice_range source (skipped + length before) (skipped + length before + length w) ≡ w
cut-text source skipped before w after e =
    let n : skipped + length before + length w - (skipped + length before) ≡ length w = omega arith in
    let d : drop (skipped + length before) source ≡ w ++ after =
    sym (drop-drop (length before) skipped source) ∙ ap (drop (length before)) e ∙ drop-append_seam before (w ++ after) in
    rw (n, d) (take-append_seam w after)

piece-kind : (source : List ℕ) (skipped : ℕ) (before after : List ℕ) (kind : Option TokenKind) (w : List ℕ) (ts : List Token)
    → drop skipped source ≡ before ++ (w ++ after) → IsForm kind w → AreOfKind (symbols_in source ts)
    → AreOfKind (symbols_in source (token_of skipped before (record { kind = kind; text = w }) ++ ts))
piece-kind source skipped before after None w ts e form others = others
piece-kind source skipped before after (Some kind) w ts e form others =
    let same = cut-text source skipped before w after e in
    (rw same form, others)

pieces-kind : (source : List ℕ) (skipped : ℕ) (before text : List ℕ) (ps : List Piece) → drop skipped source ≡ before ++ text → IsCut text ps []
    → AreOfKind (symbols_in source (tokens_of skipped before ps))
pieces-kind source skipped before text [] e cut = tt
pieces-kind source skipped before text (p ∷ ps) e (after, split, piece, others) =
    let here : drop skipped source ≡ before ++ (p.text ++ after) = e ∙ ap (λ l. before ++ l) split in
    let next : drop skipped source ≡ (before ++ p.text) ++ after = here ∙ sym (append_assoc before p.text after) in
    piece-kind source skipped before after p.kind p.text (tokens_of skipped (before ++ p.text) ps) here piece.form
    (pieces-kind source skipped (before ++ p.text) after ps next others)

pub tokens-kind : (source : List ℕ) (ts : List Token) → AreTokens source ts → AreOfKind (symbols_in source ts)
tokens-kind source ts (ps, cut, e) = rw e (pieces-kind source (mark_len source) [] (drop (mark_len source) source) ps refl cut)
