-- Plain LDF texts, read as texts of the field.
use Rattle.std.specs.Prelude.{◌≡◌, ◌++◌, ℕ, Bool, false, List, [], ◌∷◌, Option, codes, nat_eq}
use Rattle.std.specs.List.{list_any, starts_with}
use Rattle.lin_cluster.specs.Findings.{IsFree}
use Rattle.lin_parts.specs.declared.description.Description.{Description}
use Rattle.lin_parts.specs.declared.description.Name.{Name}
use Rattle.lin_ldf.specs.Describes as plain
use Rattle.lin_ldf.specs.Forms.{Form, keyword, ◌&>◌, ◌<&◌}
use Rattle.lin_ldf.specs.Names.{has_name}
use Rattle.lin_ldf.specs.Symbols.{Symbol, symbols_in}
use Rattle.lin_ldf.specs.Tokens.{AreTokens}
use Rattle.lin_ldf.specs.Words.{comma, equals, semicolon, word}
use Rattle.lin_ldf.specs.declared.token.Token.{Token}
use Rattle.lin_field.specs.Bytes.{field_bytes}
use Rattle.lin_field.specs.Describes.{ReadsFieldText, Spells}
use Rattle.lin_field.specs.PlainTexts.{StaysPlain, as_loose}
use Rattle.lin_field.specs.declared.field_text.FieldText.{FieldText}

-- the words that only a text of the field uses
abbrev pub field_words : List (List ℕ)
field_words =
    codes "Diagnostic_addresses" ∷ codes "initial_NAD" ∷ codes "LIN_sig_byte_order_little_endian"
    ∷ codes "LIN_sig_byte_order_big_endian" ∷ []

abbrev pub is_field_word : Symbol → Bool
is_field_word t = has_name field_words t.text

abbrev pub uses_field_words : List Symbol → Bool
uses_field_words ts = list_any is_field_word ts

-- 'response_error' '=' WORD ',' ';', which names none in a plain text, and the WORD in one of the
-- field, where the comma is left out
abbrev pub error_and_comma : Form Name
error_and_comma = keyword (codes "response_error") <& equals &> word <& comma <& semicolon

abbrev pub HasNoErrorAndComma : List Symbol → Type 0
HasNoErrorAndComma all =
    (before ts : List Symbol) (name : Name) (rest : List Symbol) → all ≡ before ++ ts
    → error_and_comma.spells ts name rest → ⊥

-- a text with none of the bytes that become spaces, none of these words, and no such response_error
pub record IsPlainText (source : List ℕ) (ts : List Token) : Type 0 where
  pub bytes : field_bytes source ≡ source
  pub words : uses_field_words (symbols_in source ts) ≡ false
  pub errors : HasNoErrorAndComma (symbols_in source ts)

-- It is read as a text of the field, which says what the plain one does, with the versions of its
-- header.
abbrev pub PlainTextsAreRead : Type 0
PlainTextsAreRead =
    (source : List ℕ) (ts : List Token) (d : Description) → AreTokens source ts
    → IsPlainText source ts → plain.Spells (symbols_in source ts) d
    → (version : List ℕ)
    × ((language : Option (List ℕ)) × Spells source ts (as_loose version language d))

-- One in which nothing is found, and whose header's version doesn't begin with `1.`, is settled to
-- what the plain one describes, and so to the same cluster. Nothing is told but marks that are left
-- out.
abbrev pub PlainTextsSayTheSame : Type 0
PlainTextsSayTheSame =
    (source : List ℕ) (ts : List Token) (d : Description) (text : FieldText)
    → AreTokens source ts → IsPlainText source ts → plain.Spells (symbols_in source ts) d
    → IsFree d → ReadsFieldText source text
    → starts_with nat_eq text.loose.header.version (codes "1.") ≡ false
    → StaysPlain text.loose d
