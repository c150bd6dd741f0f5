-- What an LDF text of the field describes.
use Rattle.std.specs.Prelude.{◌≡◌, ℕ, List, []}
use Rattle.lin_ldf.specs.Symbols.{symbols_in}
use Rattle.lin_ldf.specs.Tokens.{AreTokens}
use Rattle.lin_ldf.specs.declared.token.Token.{Token}
use Rattle.lin_parts.specs.declared.description.Description.{Description}
use Rattle.lin_field.specs.Bytes.{field_bytes}
use Rattle.lin_field.specs.Grammar.{field_file}
use Rattle.lin_field.specs.Marks.{without_extra_marks, extra_in}
use Rattle.lin_field.specs.Settled.{normalized_description}
use Rattle.lin_field.specs.declared.loose.Loose.{Loose}
use Rattle.lin_field.specs.declared.field_text.FieldText.{FieldText}

-- The tokens of the source, without marks that it has too many, spell this; these are the marks.
abbrev pub SpellsIn : List ℕ → List Token → Loose → Type 0
SpellsIn source ts l = field_file.spells (without_extra_marks (symbols_in source ts)) l []

abbrev pub ReadsIn : List ℕ → FieldText → Type 0
ReadsIn source t =
    (ts : List Token) × AreTokens source ts × (t.marks ≡ extra_in ts) × SpellsIn source ts t.loose

-- The same, where bytes of old editors are spaces.
abbrev pub Spells : List ℕ → List Token → Loose → Type 0
Spells source ts l = SpellsIn (field_bytes source) ts l

abbrev pub ReadsFieldText : List ℕ → FieldText → Type 0
ReadsFieldText source t = ReadsIn (field_bytes source) t

abbrev pub DescribesField : List ℕ → Description → Type 0
DescribesField source d =
    (ts : List Token) × AreTokens (field_bytes source) ts
    × ((l : Loose) × Spells source ts l × (d ≡ normalized_description l))
