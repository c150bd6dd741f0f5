-- Texts as fields of the page's lines.
use Rattle.std.specs.Prelude.{ℕ, ◌==◌, nat_lt, Bool, not, ◌&&◌, if◌then◌else◌}
use Rattle.std.specs.Prelude.{List, [], ◌∷◌, flat_map, codes}
use Rattle.std.specs.List.{list_all}
use Rattle.hex.specs.Hex.{encode_upper}

-- a text as one field: printable bytes but `%`, `&` and `<` stand for themselves, each other byte is
-- `%` and two digits
abbrev pub is_unescaped : ℕ → Bool
is_unescaped b = nat_lt 32 b && nat_lt b 127 && not (b == 37) && not (b == 38) && not (b == 60)

abbrev pub page_byte : ℕ → List ℕ
page_byte b = if is_unescaped b then b ∷ [] else 37 ∷ encode_upper (b ∷ [])

abbrev pub field : List ℕ → List ℕ
field text = 34 ∷ flat_map page_byte text

-- lines of a cluster: names are words, in which no `<` stands; one that did would be `%3C`
abbrev pub guarded_byte : ℕ → List ℕ
guarded_byte b = if b == 60 then codes "%3C" else b ∷ []

abbrev pub guarded_text : List ℕ → List ℕ
guarded_text text = flat_map guarded_byte text

-- not `<`
abbrev pub no_less : ℕ → Bool
no_less b = not (b == 60)

-- In this text no `<` stands: a browser takes it for text of the element that it is in, and ends
-- that no sooner (HTML, script data).
abbrev pub is_inert : List ℕ → Bool
is_inert = list_all no_less
