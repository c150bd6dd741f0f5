-- What is wrong with what the two sections say: 31 to 41.
use Rattle.std.specs.Prelude.{ℕ, ◌-◌, ◌%◌, ◌^◌, ◌==◌, ◌&&◌, ◌||◌, not, Bool, false, List, [], ◌∷◌, ◌++◌}
use Rattle.std.specs.Prelude.{map, flat_map, nat_lt, nat_le, find, is_some, min, Option, Some, None}
use Rattle.std.specs.Prelude.{if◌then◌else◌}
use Rattle.std.specs.List.{list_any}
use Rattle.std.specs.Option.{option_map_or}
use Rattle.std.specs.Str.{bytes_eq}
use Rattle.lin_cluster.specs.FindingsNames.{at_name, at_place, when, same_name}
use Rattle.lin_cluster.specs.declared.finding.Finding.{Finding}
use Rattle.lin_cluster.specs.declared.finding.FindingKind.TheVariants as finding
use Rattle.lin_parts.specs.declared.parts.Parts.{Parts}
use Rattle.lin_parts.specs.declared.parts.Signal.{Signal}
use Rattle.lin_parts.specs.declared.description.Name.{Name}
use Rattle.lin_values.specs.Coded.{all_codings, all_items, greatest_end, is_named, is_numeric, named_in}
use Rattle.lin_values.specs.Coded.{same_coding, type_named, has_value, signal_coding, SignalCoding}
use Rattle.lin_values.specs.Value.{fits}
use Rattle.lin_values.specs.declared.encoding.Coding.TheVariants as codings
use Rattle.lin_values.specs.declared.codings.CodedLine.{CodedLine}
use Rattle.lin_values.specs.declared.codings.CodingType.{CodingType}
use Rattle.lin_values.specs.declared.codings.Codings.{Codings}
use Rattle.lin_values.specs.declared.codings.Item.{Item}
use Rattle.lin_values.specs.declared.codings.Item.TheVariants.{Logical, Physical, Bcd, Ascii}
use Rattle.lin_values.specs.declared.codings.PlacedItem.{PlacedItem}

-- what is told of each by those before it
abbrev pub told_by : {X : Type 0} → (List X → X → List Finding) → List X → List X → List Finding
told_by tell before [] = []
told_by tell before (x ∷ xs) = tell before x ++ told_by tell (before ++ x ∷ []) xs

-- ---- items, each at its place

-- 38: an earlier value is the same
abbrev pub value_warning : List PlacedItem → PlacedItem → Item → List Finding
value_warning before p (Logical v text) =
    when (list_any (has_value v) (all_items before)) (at_place finding.LogicalTwice p.place)
value_warning before p (Physical from to scale offset unit) = []
value_warning before p Bcd = []
value_warning before p Ascii = []

abbrev pub value_warnings : List PlacedItem → List Finding
value_warnings ps = told_by (λ before p. value_warning before p p.item) [] ps

-- whether a range and this one, which fits, have a number in common
abbrev pub meets_range : ℕ → ℕ → Item → Bool
meets_range from to (Logical v text) = false
meets_range from to (Physical min max scale offset unit) =
    fits max scale offset && (nat_le min max && (nat_le from max && nat_le min to))
meets_range from to Bcd = false
meets_range from to Ascii = false

-- 31: it doesn't fit. Else 36: the first number is above the last; 37: an earlier range has a number of
-- it; 40: the scale is 0
abbrev pub range_warning : List PlacedItem → PlacedItem → Item → List Finding
range_warning before p (Logical v text) = []
range_warning before p (Physical from to scale offset unit) =
    if fits to scale offset
    then when (nat_lt to from) (at_place finding.MinAboveMax p.place)
    ++ (when (nat_le from to && list_any (meets_range from to) (all_items before))
    (at_place finding.RangesOverlap p.place)
    ++ when (scale.digits == 0) (at_place finding.ZeroScale p.place))
    else at_place finding.BadEncoding p.place ∷ []
range_warning before p Bcd = []
range_warning before p Ascii = []

abbrev pub range_warnings : List PlacedItem → List Finding
range_warnings ps = told_by (λ before p. range_warning before p p.item) [] ps

abbrev pub item_warnings : List PlacedItem → List Finding
item_warnings ps = value_warnings ps ++ range_warnings ps

-- ---- types: 32, an earlier one has the name

abbrev pub type_warning : List CodingType → CodingType → List Finding
type_warning before t =
    when (list_any (λ u. same_name u.name t.name) before) (at_name finding.EncodingTwice t.name)

abbrev pub type_warnings : List CodingType → List Finding
type_warnings ts = told_by type_warning [] ts ++ flat_map (λ t. item_warnings t.items) ts

-- ---- lines

abbrev pub signal_by_name : Parts → Name → Option Signal
signal_by_name c n = find (λ s. bytes_eq s.name n.text) c.signals

-- the greatest number of so many bits
abbrev pub greatest_raw : ℕ → ℕ
greatest_raw bits = 2 ^ (min bits 16) - 1

-- the greatest number of a signal of so many bits
abbrev pub greatest_number : ℕ → Bool → ℕ
greatest_number bits is_wide = if is_wide then 2 ^ (min bits 64) - 1 else greatest_raw bits

-- scalars and wide signals
abbrev pub has_numbers : Bool → Bool → Bool
has_numbers is_array is_wide = not is_array || is_wide

-- digits of four bits, or characters of eight, of which so many bits aren't whole ones
abbrev pub is_broken : ℕ → List PlacedItem → Bool
is_broken bits ps =
    (list_any (same_coding codings.Bcd) (all_codings ps) && not (bits % 4 == 0))
    || (list_any (same_coding codings.Ascii) (all_codings ps) && not (bits % 8 == 0))

-- 39: a value or an end that the signal can't hold; 41: items of another kind than the signal
abbrev pub kind_warnings : Name → SignalCoding → CodingType → List Finding
kind_warnings n s t =
    when
    (has_numbers s.is_array s.is_wide
    && (is_numeric t.items && nat_lt (greatest_number s.bits s.is_wide) (greatest_end t.items)))
    (at_name finding.ValueOutside n)
    ++ when (if s.is_array && not s.is_wide then is_numeric t.items else is_broken s.bits t.items)
    (at_name finding.KindOfSignal n)

abbrev pub known_warnings : Codings → Name → Option CodingType → Signal → List Finding
known_warnings k n None s = []
known_warnings k n (Some t) s = kind_warnings n (signal_coding k s) t

-- 34: no signal has the name; 35: an earlier name is the same
abbrev pub name_warnings : Parts → Codings → List (Name × Name) → Name × Name → List Finding
name_warnings c k before p =
    option_map_or
    (λ s. if list_any (is_named p.0.text) before then at_name finding.RepresentedTwice p.0 ∷ []
    else known_warnings k p.0 (type_named k.types p.1) s)
    (signal_by_name c p.0)
    (at_name finding.UnknownSignal p.0 ∷ [])

-- 33: no type has the name
abbrev pub representation_warnings : Codings → CodedLine → List Finding
representation_warnings k l =
    when (not (is_some (type_named k.types l.encoding))) (at_name finding.UnknownEncoding l.encoding)

-- ---- all of them, in no order

abbrev pub encoding_warnings : Parts → Codings → List Finding
encoding_warnings c k =
    map (at_place finding.BadEncoding) k.bad
    ++ (type_warnings k.types
    ++ (flat_map (representation_warnings k) k.lines
    ++ told_by (name_warnings c k) [] (named_in k.lines)))
