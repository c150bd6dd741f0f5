-- Marks that a text of the field has too many: a comma before a semicolon or a closing brace, and a
-- semicolon before a semicolon.
use Rattle.std.specs.Prelude.{◌≡◌, ℕ, ◌&&◌, ◌||◌, List, [], ◌∷◌, Bool, slice_set, fold}
use Rattle.std.specs.Prelude.{if◌then◌else◌}
use Rattle.lin_ldf.specs.Symbols.{Symbol, is_kind}
use Rattle.lin_ldf.specs.Forms.{is_front}
use Rattle.lin_ldf.specs.Tokens.{AreTokens}
use Rattle.lin_ldf.specs.declared.token.Token.{Token}
use Rattle.lin_ldf.specs.declared.token.TokenKind.{TokenKind}
use Rattle.lin_ldf.specs.declared.token.TokenKind.TheVariants.{CloseBrace, Semicolon, Comma}

-- whether a token of this kind before one of that kind is left out
abbrev pub is_extra : TokenKind → TokenKind → Bool
is_extra kind next =
    (is_kind Comma kind && (is_kind Semicolon next || is_kind CloseBrace next))
    || (is_kind Semicolon kind && is_kind Semicolon next)

-- the tokens without those
abbrev pub without_extra_marks : List Symbol → List Symbol
without_extra_marks [] = []
without_extra_marks (t ∷ ts) =
    if is_front (λ u. is_extra t.kind u.kind) ts then without_extra_marks ts else t ∷ without_extra_marks ts

-- those
abbrev pub extra_after : Token → List Token → List Token
extra_after t [] = []
extra_after t (u ∷ ts) =
    if is_extra t.kind u.kind then t ∷ extra_after u ts else extra_after u ts

abbrev pub extra_in : List Token → List Token
extra_in [] = []
extra_in (t ∷ ts) = extra_after t ts

-- these are the marks of a source that are left out
abbrev pub AreExtraMarks : List ℕ → List Token → Type 0
AreExtraMarks source marks =
    (ts : List Token) × AreTokens source ts × (marks ≡ extra_in ts)

-- a space in the place of each
abbrev pub blank_at : List ℕ → Token → List ℕ
blank_at source mark = slice_set source mark.start 0x20

abbrev pub text_with_blanks : List ℕ → List Token → List ℕ
text_with_blanks source marks = fold blank_at source marks
