-- The encodings of the signals of a cluster.
use Rattle.std.specs.Prelude.{◌≡◌, ℕ, ◌<◌, ◌^◌, ◌==◌, ◌&&◌, not, Bool, true, false, List, [], ◌∷◌, map, filter}
use Rattle.std.specs.Prelude.{find, flat_map, fold, max, length, Option, Some, None, nat_lt, nat_le}
use Rattle.std.specs.Prelude.{option_and_then, slice_index_or, if◌then◌else◌}
use Rattle.std.specs.List.{list_any, list_all}
use Rattle.std.specs.Option.{option_map_or}
use Rattle.std.specs.Str.{bytes_eq}
use Rattle.lin_cluster.specs.FindingsNames.{same_name}
use Rattle.lin_parts.specs.Rules.{is_array}
use Rattle.lin_parts.specs.declared.parts.Parts.{Parts}
use Rattle.lin_parts.specs.declared.parts.Signal.{Signal}
use Rattle.lin_parts.specs.declared.description.Name.{Name}
use Rattle.lin_values.specs.Layers.{item_in, AreInOrder}
use Rattle.lin_values.specs.Value.{fits}
use Rattle.lin_values.specs.declared.encoding.Coding.{Coding}
use Rattle.lin_values.specs.declared.encoding.Coding.TheVariants as codings
use Rattle.lin_values.specs.declared.decimals.Decimal.{Decimal}
use Rattle.lin_values.specs.declared.encoding.Range.{Range}
use Rattle.lin_values.specs.declared.encoding.Traits.{Traits}
use Rattle.lin_values.specs.declared.codings.CodedLine.{CodedLine}
use Rattle.lin_values.specs.declared.codings.CodingType.{CodingType}
use Rattle.lin_values.specs.declared.codings.Codings.{Codings}
use Rattle.lin_values.specs.declared.codings.Item.{Item}
use Rattle.lin_values.specs.declared.codings.Item.TheVariants.{Logical, Physical, Bcd, Ascii}
use Rattle.lin_values.specs.declared.codings.PlacedItem.{PlacedItem}
use Rattle.lin_values.specs.declared.layers.RangePart.{RangePart}

-- ---- items

abbrev pub has_value : ℕ → Item → Bool
has_value raw (Logical v text) = v == raw
has_value raw (Physical from to scale offset unit) = false
has_value raw Bcd = false
has_value raw Ascii = false

abbrev pub in_range : ℕ → Item → Bool
in_range raw (Logical v text) = false
in_range raw (Physical from to scale offset unit) =
    fits to scale offset && (nat_le from raw && nat_le raw to)
in_range raw Bcd = false
in_range raw Ascii = false

abbrev pub all_items : List PlacedItem → List Item
all_items ps = map (λ p. p.item) ps

abbrev pub or_else : {A : Type 0} → Option A → Option A → Option A
or_else (Some x) y = Some x
or_else None y = y

-- the item that counts for a number: the first value, and else the first range that fits
abbrev pub item_for : List PlacedItem → ℕ → Option Item
item_for ps raw =
    or_else (find (has_value raw) (all_items ps)) (find (in_range raw) (all_items ps))

-- an item by its number
abbrev pub item_by : List PlacedItem → ℕ → Option Item
item_by ps n = slice_index_or (map (λ i. Some i) (all_items ps)) n None

-- a range as code has it: its ends, its scale, its offset and its unit
pub record RangeData : Type 0 where
  pub min : ℕ
  pub max : ℕ
  pub scale : Decimal
  pub offset : Decimal
  pub unit : List ℕ

abbrev pub range_of : Range → RangeData
range_of r =
    record { min = r.min; max = r.max; scale = r.scale; offset = r.offset; unit = r.unit.now }

abbrev pub range_in : Item → Option RangeData
range_in (Logical v text) = None
range_in (Physical from to scale offset unit) =
    Some (record { min = from; max = to; scale = scale; offset = offset; unit = unit })
range_in Bcd = None
range_in Ascii = None

abbrev pub is_range : Item → Bool
is_range (Logical v text) = false
is_range (Physical from to scale offset unit) = fits to scale offset
is_range Bcd = false
is_range Ascii = false

-- the value, or the end of the range that fits
abbrev pub ends_of : Item → List ℕ
ends_of (Logical v text) = v ∷ []
ends_of (Physical from to scale offset unit) = if fits to scale offset then to ∷ [] else []
ends_of Bcd = []
ends_of Ascii = []

abbrev pub all_ends : List PlacedItem → List ℕ
all_ends ps = flat_map ends_of (all_items ps)

abbrev pub is_numeric : List PlacedItem → Bool
is_numeric ps = nat_lt 0 (length (all_ends ps))

abbrev pub greatest_end : List PlacedItem → ℕ
greatest_end ps = fold max 0 (all_ends ps)

-- digits and characters, in the order of the items
abbrev pub codings_of : Item → List Coding
codings_of (Logical v text) = []
codings_of (Physical from to scale offset unit) = []
codings_of Bcd = codings.Bcd ∷ []
codings_of Ascii = codings.Ascii ∷ []

abbrev pub same_coding : Coding → Coding → Bool
same_coding codings.Bcd codings.Bcd = true
same_coding codings.Ascii codings.Ascii = true
same_coding a b = false

abbrev pub all_codings : List PlacedItem → List Coding
all_codings ps = flat_map codings_of (all_items ps)

abbrev pub first_of : {A : Type 0} → List A → Option A
first_of [] = None
first_of (x ∷ xs) = Some x

abbrev pub first_coding : List PlacedItem → Option Coding
first_coding ps = first_of (all_codings ps)

abbrev pub second_coding : List PlacedItem → Option Coding
second_coding ps =
    option_and_then (λ a. first_of (filter (λ b. not (same_coding a b)) (all_codings ps)))
    (first_coding ps)

-- what an encoding keeps of its items
pub record IsIndexed (c : CodingType) (t : Traits) (parts : List RangePart) : Type 0 where
  pub numeric : t.is_numeric ≡ is_numeric c.items
  pub range : t.has_range ≡ list_any is_range (all_items c.items)
  pub greatest : t.greatest ≡ greatest_end c.items
  pub first : t.first ≡ first_coding c.items
  pub second : t.second ≡ second_coding c.items
  pub ordered : AreInOrder parts
  pub found : (raw : ℕ) → raw < 2 ^ 64
      → option_and_then (item_by c.items) (item_in parts raw) ≡ item_for c.items raw

-- ---- signals

-- a signal, as far as its values go, and its encoding; the values of a wide one are numbers, though it is
-- an array
pub record SignalCoding : Type 0 where
  pub bits : ℕ
  pub is_array : Bool
  pub is_wide : Bool
  pub encoding : Option CodingType

pub record CodedData : Type 0 where
  pub signals : List SignalCoding

-- the names of the lines, in the order of the text, each with its line's encoding
abbrev pub named_in : List CodedLine → List (Name × Name)
named_in ls = flat_map (λ l. map (λ n. (n, l.encoding)) l.signals) ls

abbrev pub is_named : List ℕ → Name × Name → Bool
is_named name p = bytes_eq p.0.text name

abbrev pub type_named : List CodingType → Name → Option CodingType
type_named ts n = find (λ t. same_name t.name n) ts

-- the encoding that the first name of a signal among the lines gives it: the first with that name
abbrev pub encoding_by : Codings → Signal → Option CodingType
encoding_by k s =
    option_and_then (λ p. type_named k.types p.1) (find (is_named s.name) (named_in k.lines))

-- whether a signal is one of those whose values are numbers, though it is an array
abbrev pub is_wide_in : List Name → Signal → Bool
is_wide_in wide s = is_array s.initial && list_any (λ n. bytes_eq n.text s.name) wide

abbrev pub signal_coding : Codings → Signal → SignalCoding
signal_coding k s = record {
  bits = s.size;
  is_array = is_array s.initial;
  is_wide = is_wide_in k.wide s;
  encoding = encoding_by k s;
}

abbrev pub coded_signals : Parts → Codings → CodedData
coded_signals c k = record { signals = map (signal_coding k) c.signals }

-- out of range: a signal of one bit without an encoding
abbrev pub signal_at : CodedData → ℕ → SignalCoding
signal_at k s =
    slice_index_or k.signals s (record { bits = 1; is_array = false; is_wide = false; encoding = None })

abbrev pub encoding_of : CodedData → ℕ → Option CodingType
encoding_of k s = (signal_at k s).encoding

-- ---- units

abbrev pub unit_of : Item → List (List ℕ)
unit_of (Logical v text) = []
unit_of (Physical from to scale offset unit) = unit ∷ []
unit_of Bcd = []
unit_of Ascii = []

abbrev pub one_unit : List (List ℕ) → Option (List ℕ)
one_unit [] = None
one_unit (u ∷ us) =
    if nat_lt 0 (length u) && list_all (λ v. bytes_eq v u) us then Some u else None

-- the unit of all ranges of a signal, where they have one
abbrev pub common_unit : CodedData → ℕ → Option (List ℕ)
common_unit k s =
    option_and_then (λ t. one_unit (flat_map unit_of (all_items t.items))) (encoding_of k s)

abbrev pub has_range : CodedData → ℕ → Bool
has_range k s =
    option_map_or (λ t. list_any is_range (all_items t.items)) (encoding_of k s) false
