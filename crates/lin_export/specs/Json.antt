-- Words of JSON (RFC 8259), without spaces. Names of LDFs are words, and most other texts are letters,
-- digits, `:`, `-` and spaces, so that only names of files, and texts and tokens of LDFs may need an
-- escape.
use Rattle.std.specs.Prelude.{ℕ, ◌==◌, ◌&&◌, ◌||◌, nat_le, nat_lt, if◌then◌else◌, List, [], ◌∷◌, ◌++◌, flat_map, codes}
use Rattle.std.specs.Prelude.{map}
use Rattle.hex.specs.Hex.{encode_upper}
use Rattle.lin_export.specs.Csv.{after_comma}

abbrev pub null : List ℕ
null = codes "null"

-- a text between quotes, and bytes as one of upper-case digits
abbrev pub quoted_text : List ℕ → List ℕ
quoted_text text = 34 ∷ (text ++ 34 ∷ [])

-- the bytes of a text: a quote and a backslash after a backslash, and a control character as `\u00` and
-- two digits
abbrev pub escaped_byte : ℕ → List ℕ
escaped_byte b =
    if b == 34 || b == 92 then 92 ∷ b ∷ []
    else (if nat_lt b 32 then 92 ∷ 117 ∷ 48 ∷ 48 ∷ encode_upper (b ∷ []) else b ∷ [])

abbrev pub escaped_bytes : List ℕ → List ℕ
escaped_bytes text = flat_map escaped_byte text

abbrev pub escaped_text : List ℕ → List ℕ
escaped_text text = quoted_text (escaped_bytes text)

-- a text, and null for none
abbrev pub text_value : List ℕ → List ℕ
text_value [] = null
text_value (c ∷ cs) = escaped_text (c ∷ cs)

-- with `?` for each byte that isn't 20 to 7E
abbrev pub printable_byte : ℕ → ℕ
printable_byte b = if nat_le 32 b && nat_le b 126 then b else 63

abbrev pub printable_text : List ℕ → List ℕ
printable_text text = escaped_text (map printable_byte text)

abbrev pub hex_text : List ℕ → List ℕ
hex_text bytes = quoted_text (encode_upper bytes)

-- a member of an object: its key, and its value after a colon
abbrev pub member : List ℕ → List ℕ → List ℕ
member key value = quoted_text key ++ 58 ∷ value

-- values or members with a comma between two
abbrev pub with_commas : List (List ℕ) → List ℕ
with_commas [] = []
with_commas (text ∷ texts) = text ++ flat_map after_comma texts

-- values or members after so many others
abbrev pub after_members : ℕ → List (List ℕ) → List ℕ
after_members count texts = flat_map (λ text. (if count == 0 then [] else after_comma []) ++ text) texts

abbrev pub json_array : List (List ℕ) → List ℕ
json_array values = 91 ∷ (with_commas values ++ 93 ∷ [])

abbrev pub object : List (List ℕ) → List ℕ
object members = 123 ∷ (with_commas members ++ 125 ∷ [])

-- a line: an object whose first member is its type, and LF
abbrev pub object_line : List ℕ → List (List ℕ) → List ℕ
object_line kind members =
    123 ∷ (member (codes "type") (quoted_text kind) ++ (flat_map after_comma members ++ 125 ∷ 10 ∷ []))
