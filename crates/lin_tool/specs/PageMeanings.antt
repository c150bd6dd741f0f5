-- What the values of signals mean (LIN 2.2A, section 9.2.6), as lines of a page: of each signal first
-- the values of its encoding that have texts, then its ranges, each in the LDF's order. Of these the
-- first one that holds a raw value says what it means.
use Rattle.std.specs.Prelude.{ℕ, List, [], ◌∷◌, ◌++◌, length, flat_map, codes, Option, Some, None}
use Rattle.std.specs.Fmt.{decimal}
use Rattle.lin_parts.specs.declared.parts.Parts.{Parts}
use Rattle.lin_frame.specs.Words.{numbers}
use Rattle.lin_log.specs.Words.{line}
use Rattle.lin_tool.specs.PageFields.{field}
use Rattle.lin_values.specs.Coded.{encoding_of, range_in, CodedData, RangeData}
use Rattle.lin_values.specs.Shown.{decimal_shown}
use Rattle.lin_values.specs.declared.codings.CodingType.{CodingType}
use Rattle.lin_values.specs.declared.codings.Item.{Item}
use Rattle.lin_values.specs.declared.codings.PlacedItem.{PlacedItem}
use Rattle.lin_values.specs.declared.codings.Item.TheVariants.{Logical, Physical, Bcd, Ascii}

-- a raw value and its text
abbrev pub logical_value_line : ℕ → ℕ → List ℕ → List ℕ
logical_value_line s v text = line (codes "logical" ∷ decimal s ∷ decimal v ∷ field text ∷ [])

abbrev pub logical_line : ℕ → Item → List ℕ
logical_line s (Logical v text) = logical_value_line s v text
logical_line s (Physical from to scale offset unit) = []
logical_line s Bcd = []
logical_line s Ascii = []

-- the first and the last raw value, what they are multiplied by, what is added, and the unit
abbrev pub physical_range_line : ℕ → Option RangeData → List ℕ
physical_range_line s None = []
physical_range_line s (Some r) =
    line (codes "physical" ∷ decimal s ∷ decimal r.min ∷ decimal r.max ∷ decimal_shown r.scale
    ∷ decimal_shown r.offset ∷ field r.unit ∷ [])

abbrev pub physical_line : ℕ → Item → List ℕ
physical_line s item = physical_range_line s (range_in item)

abbrev pub encoding_lines : ℕ → List PlacedItem → List ℕ
encoding_lines s items =
    flat_map (λ p. logical_line s p.item) items ++ flat_map (λ p. physical_line s p.item) items

abbrev pub type_lines : ℕ → Option CodingType → List ℕ
type_lines s None = []
type_lines s (Some t) = encoding_lines s t.items

abbrev pub meaning_lines : CodedData → ℕ → List ℕ
meaning_lines k s = type_lines s (encoding_of k s)

-- of all signals; none where the encodings aren't known
abbrev pub coded_lines : Parts → Option CodedData → List ℕ
coded_lines c None = []
coded_lines c (Some k) = flat_map (meaning_lines k) (numbers (length c.signals))
