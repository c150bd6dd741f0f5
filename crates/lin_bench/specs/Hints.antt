-- The hint about the values that a signal has, for a reason of a bad line.
use Rattle.std.specs.Prelude.{ℕ, ◌==◌, ◌&&◌, ◌||◌, not, Bool, false, ℤ, List, [], ◌∷◌, ◌++◌, codes, fold}
use Rattle.std.specs.Prelude.{length, nat_lt, take, Option, option_and_then, if◌then◌else◌}
use Rattle.std.specs.List.{list_any}
use Rattle.std.specs.Option.{option_map, option_map_or, option_to_list}
use Rattle.std.specs.Str.{bytes_eq}
use Rattle.lin_frame.specs.declared.value.Value.TheVariants.{Scalar}
use Rattle.lin_values.specs.Coded.{CodedData, encoding_of}
use Rattle.lin_values.specs.Meaning.{meaning}
use Rattle.lin_values.specs.Raws.{above, below, values_of}
use Rattle.lin_values.specs.Read.{number_and_unit}
use Rattle.lin_values.specs.Shown.{plain_shown}
use Rattle.lin_values.specs.declared.codings.Item.{Item}
use Rattle.lin_values.specs.declared.codings.Item.TheVariants as items
use Rattle.lin_values.specs.declared.codings.PlacedItem.{PlacedItem}
use Rattle.lin_bench.specs.declared.reason.Hint.{Hint}
use Rattle.lin_bench.specs.declared.reason.Hint.TheVariants as hint

-- ---- the texts and the units of a signal, each once, in the order of its encoding's items

-- the text of a logical value, and the unit of a range; empty if an item has none
abbrev pub item_text : Item → List ℕ
item_text (items.Logical v text) = text
item_text (items.Physical from to scale offset unit) = []
item_text items.Bcd = []
item_text items.Ascii = []

abbrev pub item_unit : Item → List ℕ
item_unit (items.Logical v text) = []
item_unit (items.Physical from to scale offset unit) = unit
item_unit items.Bcd = []
item_unit items.Ascii = []

abbrev pub is_among_texts : List (List ℕ) → List ℕ → Bool
is_among_texts ts text = list_any (λ t. bytes_eq t text) ts

-- nine at most, because more aren't listed
abbrev pub with_text : List (List ℕ) → List ℕ → List (List ℕ)
with_text ts [] = ts
with_text ts (c ∷ cs) =
    if nat_lt 8 (length ts) || is_among_texts ts (c ∷ cs) then ts else ts ++ (c ∷ cs) ∷ []

-- a text that a raw value of the signal has: not one of a value that an earlier item has too, or that
-- doesn't fit in its bits
abbrev pub is_text_of_signal : CodedData → ℕ → List ℕ → Bool
is_text_of_signal k s text = nat_lt 0 (length (values_of k s text))

abbrev pub with_text_of : CodedData → ℕ → List (List ℕ) → PlacedItem → List (List ℕ)
with_text_of k s ts p = if is_text_of_signal k s (item_text p.item) then with_text ts (item_text p.item) else ts

abbrev pub with_unit_of : List (List ℕ) → PlacedItem → List (List ℕ)
with_unit_of ts p = with_text ts (item_unit p.item)

abbrev pub texts_in : CodedData → ℕ → List PlacedItem → List (List ℕ)
texts_in k s ps = fold (with_text_of k s) [] ps

abbrev pub units_in : List PlacedItem → List (List ℕ)
units_in ps = fold with_unit_of [] ps

-- whether a text or a unit of a signal has a `#`
abbrev pub has_sign : List ℕ → Bool
has_sign text = list_any (λ c. c == 35) text

abbrev pub has_hash : PlacedItem → Bool
has_hash p = has_sign (item_text p.item) || has_sign (item_unit p.item)

abbrev pub any_hash : List PlacedItem → Bool
any_hash ps = list_any has_hash ps

abbrev pub names_hash : CodedData → ℕ → Bool
names_hash k s = option_map_or (λ t. any_hash t.items) (encoding_of k s) false

-- at most eight of them, and `..` for the others
abbrev pub few : List (List ℕ) → List (List ℕ)
few ts = if nat_lt 8 (length ts) then take 8 ts ++ codes ".." ∷ [] else ts

-- ---- the decimals next to a number, without units
abbrev pub near_words : CodedData → ℕ → Option ℕ → List (List ℕ)
near_words k s raw =
    option_to_list (option_map plain_shown (option_and_then (λ n. meaning k s (Scalar n)) raw))

abbrev pub near_number : CodedData → ℕ → ℤ × List ℕ → List (List ℕ)
near_number k s p = near_words k s (below k s p.0 p.1) ++ near_words k s (above k s p.0 p.1)

-- ---- the hint: the first of these that there is

-- the units, if the signal has some
abbrev pub units_hint : List (List ℕ) → Hint
units_hint [] = hint.Nothing
units_hint (u ∷ us) = hint.Units (few (u ∷ us))

-- the texts, or the units
abbrev pub values_hint : List (List ℕ) → List (List ℕ) → Hint
values_hint units [] = units_hint units
values_hint units (t ∷ ts) = hint.Values (few (t ∷ ts))

-- the decimals next to the number, or another hint
abbrev pub near_hint : Hint → List (List ℕ) → Hint
near_hint other [] = other
near_hint other (t ∷ ts) = hint.Nearest (t ∷ ts)

abbrev pub some_has_unit : List PlacedItem → List ℕ → Bool
some_has_unit ps unit = list_any (λ p. bytes_eq (item_unit p.item) unit) ps

-- whether a signal with units doesn't have this one
abbrev pub is_strange : List PlacedItem → List ℕ → Bool
is_strange ps [] = false
is_strange ps (c ∷ cs) = nat_lt 0 (length (units_in ps)) && not (some_has_unit ps (c ∷ cs))

-- for a number: the units if its unit is another one, else the decimals next to it
abbrev pub number_hint : CodedData → ℕ → List PlacedItem → ℤ × List ℕ → Hint
number_hint k s ps p =
    if is_strange ps p.1 then units_hint (units_in ps)
    else near_hint (values_hint (units_in ps) (texts_in k s ps)) (near_number k s p)

abbrev pub text_hint : CodedData → ℕ → List ℕ → List PlacedItem → Hint
text_hint k s text ps =
    option_map_or (number_hint k s ps) (number_and_unit text)
    (values_hint (units_in ps) (texts_in k s ps))

-- for a text that no raw value has
abbrev pub value_hint : CodedData → ℕ → List ℕ → Hint
value_hint k s text =
    option_map_or (λ t. text_hint k s text t.items) (encoding_of k s) hint.NoEncoding

-- for a tolerance or a range with a unit, in which no raw value is
abbrev pub range_hint : List ℕ → List PlacedItem → Hint
range_hint unit ps =
    if is_strange ps unit then units_hint (units_in ps) else hint.Nothing

abbrev pub unit_hint : CodedData → ℕ → List ℕ → Hint
unit_hint k s unit = option_map_or (λ t. range_hint unit t.items) (encoding_of k s) hint.NoEncoding
