-- The ways back: the raw values that have a text, that mean a decimal, and the nearest.
use Rattle.std.specs.Prelude.{◌≡◌, ℕ, ◌+◌, ◌-◌, ◌*◌, ◌^◌, ◌<◌, ◌≤◌, ◌≢◌, ◌==◌, ◌&&◌, ◌||◌, Bool, true, false, ℤ}
use Rattle.std.specs.Prelude.{replicate, ◌/◌, List, [], ◌∷◌, ◌++◌, drop, filter, flat_map, fold, length, map}
use Rattle.std.specs.Prelude.{slice_index, sum_by, All, AllPairs, take, Option, Some, None, is_some, nat_le, nat_lt}
use Rattle.std.specs.Prelude.{if◌then◌else◌, unsigned_abs, option_and_then, int_lt, not, ◌-ℤ◌}
use Rattle.std.specs.List.{list_all, list_any, range_with_len}
use Rattle.std.specs.Option.{option_map, option_map_or}
use Rattle.std.specs.Str.{bytes_eq}
use lib.IntN.{pos, ◌+ℤ◌, ◌*ℤ◌}
use Rattle.lin_frame.specs.declared.value.Value.{Value}
use Rattle.lin_frame.specs.declared.value.Value.TheVariants.{Scalar, Bytes}
use Rattle.lin_values.specs.Coded.{item_by, item_for, signal_at, CodedData}
use Rattle.lin_values.specs.Layers.{in_span, IsBefore, IsSomeSpan}
use Rattle.lin_values.specs.Meaning.{meaning, value_bytes}
use Rattle.lin_values.specs.Meant.{Meant, Named, Number, Physical, Digits, Letters}
use Rattle.lin_values.specs.Read.{number_and_unit}
use Rattle.lin_values.specs.Shown.{shown}
use Rattle.lin_values.specs.Value.{scaled_value}
use Rattle.lin_values.specs.Warnings.{greatest_raw}
use Rattle.lin_values.specs.declared.encoding.Range.{Range}
use Rattle.lin_values.specs.declared.codings.Item.{Item}
use Rattle.lin_values.specs.declared.codings.Item.TheVariants as items
use Rattle.lin_values.specs.declared.codings.Item.TheVariants.{Logical}
use Rattle.lin_values.specs.declared.codings.PlacedItem.{PlacedItem}
use Rattle.lin_values.specs.declared.layers.RangePart.{RangePart}
use Rattle.lin_values.specs.declared.layers.Span.{Span}
use Rattle.lin_values.specs.declared.sought.Sought.{Sought}

-- ---- values that signals can have, and that texts stand for: those of scalars and of arrays that aren't
-- wide

abbrev pub is_value : CodedData → ℕ → Value → Bool
is_value k s (Scalar raw) = not (signal_at k s).is_array && nat_le raw (greatest_raw (signal_at k s).bits)
is_value k s (Bytes bs) =
    (signal_at k s).is_array
    && (not (signal_at k s).is_wide && (length bs == (signal_at k s).bits / 8
    && (nat_le (length bs) 8 && list_all (λ b. nat_lt b 256) bs)))

-- ---- a decimal and a unit, which may be left out

abbrev pub has_unit : List ℕ → List ℕ → Bool
has_unit [] unit = true
has_unit (c ∷ cs) unit = bytes_eq (c ∷ cs) unit

abbrev pub lies_within : ℤ → ℤ → ℤ → Bool
lies_within low high z = not (int_lt z low) && not (int_lt high z)

abbrev pub is_decimal_within : ℤ → ℤ → List ℕ → Meant → Bool
is_decimal_within low high unit (Named text) = false
is_decimal_within low high unit (Number n) = false
is_decimal_within low high unit (Physical z u) = lies_within low high z && has_unit unit u
is_decimal_within low high unit (Digits text) = false
is_decimal_within low high unit (Letters text) = false

abbrev pub raws_within : CodedData → ℕ → ℤ → ℤ → List ℕ → Value → Bool
raws_within k s low high unit v =
    is_value k s v && option_map_or (is_decimal_within low high unit) (meaning k s v) false

-- ---- a text

abbrev pub is_number_without_unit : ℕ → ℤ × List ℕ → Bool
is_number_without_unit n (z, []) = unsigned_abs (z -ℤ pos (n * 10 ^ 24)) == 0
is_number_without_unit n (z, (c ∷ cs)) = false

-- of a decimal its number, with its unit or without one; of characters those in quotes, none of which
-- stands for a byte that isn't visible; else the text
abbrev pub means_text : List ℕ → Option (ℤ × List ℕ) → Meant → Bool
means_text text number (Named t) = bytes_eq text t
means_text text number (Number n) = option_map_or (is_number_without_unit n) number false
means_text text number (Physical z u) =
    option_map_or (λ p. is_decimal_within p.0 p.0 p.1 (Physical z u)) number false
means_text text number (Digits t) = bytes_eq text t
means_text text number (Letters t) = bytes_eq text (shown (Letters t))

-- an array or a scalar of characters is filled up with 00, so that its bytes are visible, or 00 at the
-- end
abbrev pub is_printable : ℕ → Bool
is_printable b = nat_le 0x20 b && nat_le b 0x7E

abbrev pub is_plain_from : Bool → List ℕ → Bool
is_plain_from ended [] = true
is_plain_from ended (b ∷ bs) =
    if b == 0 then is_plain_from true bs
    else if ended then false else is_printable b && is_plain_from false bs

abbrev pub is_plain : List ℕ → Meant → Bool
is_plain bs (Named t) = true
is_plain bs (Number n) = true
is_plain bs (Physical z u) = true
is_plain bs (Digits t) = true
is_plain bs (Letters t) = is_plain_from false bs

abbrev pub value_has_text : CodedData → ℕ → List ℕ → Value → Meant → Bool
value_has_text k s text v m =
    means_text text (number_and_unit text) m
    && is_plain (value_bytes (signal_at k s) v) m

abbrev pub raws_of : CodedData → ℕ → List ℕ → Value → Bool
raws_of k s text v =
    is_value k s v && option_map_or (value_has_text k s text v) (meaning k s v) false

-- those of digits or characters alone
abbrev pub is_coded : Meant → Bool
is_coded (Named t) = false
is_coded (Number n) = false
is_coded (Physical z u) = false
is_coded (Digits t) = true
is_coded (Letters t) = true

abbrev pub coded_raws : CodedData → ℕ → List ℕ → Value → Bool
coded_raws k s text v =
    is_value k s v && option_map_or (λ m. is_coded m && value_has_text k s text v m) (meaning k s v) false

-- ---- parts of these, as code has them

abbrev pub all_numbers : Span
all_numbers = record { from = 0; to = 65535 }

abbrev pub one_span : Bool → ℕ → Option Span
one_span b n = if b then Some (record { from = n; to = n }) else None

-- ---- what is looked for, as code has it: a text of values or none, and decimals from one to another or
-- none, with their unit

abbrev pub named_by : Option (List ℕ) → List ℕ → Bool
named_by None t = false
named_by (Some text) t = bytes_eq text t

abbrev pub is_exactly : ℕ → Option (ℤ × ℤ) → List ℕ → Bool
is_exactly n decimals [] =
    option_map_or
    (λ d. unsigned_abs (d.0 -ℤ pos (n * 10 ^ 24)) == 0 && unsigned_abs (d.1 -ℤ pos (n * 10 ^ 24)) == 0)
    decimals false
is_exactly n decimals (c ∷ cs) = false

-- at most 10 ^ 14 in size
abbrev pub AreWide : Option (ℤ × ℤ) → Type 0
AreWide None = Unit {0}
AreWide (Some d) = (unsigned_abs d.0 ≤ 10 ^ 38) × (unsigned_abs d.1 ≤ 10 ^ 38)

-- whether a value is meant that has this text, or without one as a number
abbrev pub sought_value : Option (List ℕ) → Option (ℤ × ℤ) → List ℕ → ℕ → List ℕ → Bool
sought_value text decimals unit n [] = is_some text && is_exactly n decimals unit
sought_value text decimals unit n (c ∷ cs) = named_by text (c ∷ cs)

-- the raw values n that a range gives such decimals
abbrev pub sought_range : Option (ℤ × ℤ) → List ℕ → Item → ℕ → Bool
sought_range decimals unit (Logical v t) n = false
sought_range decimals unit (items.Physical min max scale offset u) n =
    has_unit unit u
    && option_map_or (λ d. lies_within d.0 d.1 (pos n *ℤ scaled_value scale +ℤ scaled_value offset)) decimals false
sought_range decimals unit items.Bcd n = false
sought_range decimals unit items.Ascii n = false

-- the raw values n of a signal for which an item counts
abbrev pub sought_item : Option (List ℕ) → Option (ℤ × ℤ) → List ℕ → Item → ℕ → Bool
sought_item text decimals unit (Logical v t) n = n == v && sought_value text decimals unit v t
sought_item text decimals unit (items.Physical min max scale offset u) n =
    sought_range decimals unit (items.Physical min max scale offset u) n
sought_item text decimals unit items.Bcd n = false
sought_item text decimals unit items.Ascii n = false

-- the same of a part of an encoding, and of a signal of so many bits
abbrev pub sought_part : List PlacedItem → ℕ → Option (List ℕ) → Option (ℤ × ℤ) → List ℕ → RangePart → ℕ
    → Bool
sought_part ps bits text decimals unit part n =
    nat_le n (greatest_raw bits)
    && (in_span part.span n
    && option_map_or (λ i. sought_item text decimals unit i n) (item_by ps part.item) false)

abbrev pub sought_raw : List PlacedItem → ℕ → Option (List ℕ) → Option (ℤ × ℤ) → List ℕ → ℕ → Bool
sought_raw ps bits text decimals unit n =
    nat_le n (greatest_raw bits)
    && option_map_or (λ i. sought_item text decimals unit i n) (item_for ps n) false

-- the raw values of a signal that are looked for
abbrev pub sought_of : CodedData → ℕ → Option (List ℕ) → Option (ℤ × ℤ) → List ℕ → ℕ → Bool
sought_of k s text decimals unit n =
    not (signal_at k s).is_array
    && option_map_or (λ t. sought_raw t.items (signal_at k s).bits text decimals unit n)
    (signal_at k s).encoding false

-- the same, as code looks for it
abbrev pub seeks_item : Sought → Item → ℕ → Bool
seeks_item s item n = sought_item (option_map (λ t. t.now) s.text) s.decimals s.unit.now item n

abbrev pub seeks_part : Sought → List PlacedItem → ℕ → RangePart → ℕ → Bool
seeks_part s ps bits part n = sought_part ps bits (option_map (λ t. t.now) s.text) s.decimals s.unit.now part n

abbrev pub seeks_raw : Sought → List PlacedItem → ℕ → ℕ → Bool
seeks_raw s ps bits n = sought_raw ps bits (option_map (λ t. t.now) s.text) s.decimals s.unit.now n

abbrev pub seeks_of : Sought → CodedData → ℕ → ℕ → Bool
seeks_of s k signal n = sought_of k signal (option_map (λ t. t.now) s.text) s.decimals s.unit.now n

-- spans have the numbers of 16 bits of which this holds, and no other
abbrev pub HaveNumbers : (ℕ → Bool) → List Span → Type 0
HaveNumbers f spans = (n : ℕ) → n < 65536 → list_any (λ s. in_span s n) spans ≡ f n

-- the decimals and the unit that a text stands for, where it begins with a number
abbrev pub decimals_of : List ℕ → Option (ℤ × ℤ)
decimals_of text = option_map (λ p. (p.0, p.0)) (number_and_unit text)

abbrev pub unit_behind : List ℕ → List ℕ
unit_behind text = option_map_or (λ p. p.1) (number_and_unit text) text

-- ---- what code has of them

abbrev pub same_raw : Value → Value → Bool
same_raw (Scalar a) (Scalar b) = a == b
same_raw (Bytes a) (Bytes b) = bytes_eq a b
same_raw a b = false

-- whether a value is this one, where there is one
abbrev pub is_this : Option Value → Value → Bool
is_this o v = option_map_or (λ w. same_raw w v) o false

abbrev pub in_spans : List Span → Value → Bool
in_spans spans (Scalar raw) = list_any (λ s. in_span s raw) spans
in_spans spans (Bytes bs) = false

abbrev pub has_raw : List Span → Option Value → Value → Bool
has_raw spans coded v = option_map_or (λ w. same_raw w v) coded false || in_spans spans v

pub record RawsData : Type 0 where
  pub spans : List Span
  pub coded : Option Value

abbrev pub has : RawsData → Value → Bool
has r v = has_raw r.spans r.coded v

abbrev pub HasNone : RawsData → Type 0
HasNone r = (v : Value) → has r v ≡ false

abbrev pub HasTwo : RawsData → Type 0
HasTwo r = (v : Value) × (w : Value) × (v ≢ w) × (has r v ≡ true) × (has r w ≡ true)

-- spans of scalars in order, and a value that isn't in them
pub record AreRaws (spans : List Span) (coded : Option Value) : Type 0 where
  pub some : All IsSomeSpan spans
  pub ordered : AllPairs IsBefore spans
  pub apart : (v : Value) → coded ≡ Some v → in_spans spans v ≡ false

abbrev pub count_of : List Span → Option Value → ℕ
count_of spans coded = sum_by (λ s. s.to + 1 - s.from) spans + option_map_or (λ v. 1) coded 0

-- ---- all of a text, the lowest first

abbrev pub scalars : CodedData → ℕ → List ℕ
scalars k s = range_with_len 0 (greatest_raw (signal_at k s).bits + 1)

-- the array that characters in quotes, or two digits for each byte, spell, filled up with 00
abbrev pub bytes_of_digits : List ℕ → List ℕ
bytes_of_digits (a ∷ b ∷ cs) = ((a - 48) * 16 + (b - 48)) ∷ bytes_of_digits cs
bytes_of_digits cs = []

abbrev pub spelled_bytes : List ℕ → List ℕ
spelled_bytes text =
    if slice_index text 0 == 34 then take (length text - 2) (drop 1 text) else bytes_of_digits text

abbrev pub array_spelled : ℕ → List ℕ → Value
array_spelled bits text = Bytes (take (bits / 8) (spelled_bytes text ++ replicate (bits / 8) 0))

abbrev pub candidate_values : CodedData → ℕ → List ℕ → List Value
candidate_values k s text =
    if (signal_at k s).is_array then array_spelled (signal_at k s).bits text ∷ []
    else map Scalar (scalars k s)

-- (these are all: an array has a text only where the text spells it)
abbrev pub values_of : CodedData → ℕ → List ℕ → List Value
values_of k s text = filter (raws_of k s text) (candidate_values k s text)

-- ---- next to a decimal, and the nearest

abbrev pub units_of : List ℕ → Meant → Option ℤ
units_of unit (Named t) = None
units_of unit (Number n) = None
units_of unit (Physical z u) = if has_unit unit u then Some z else None
units_of unit (Digits t) = None
units_of unit (Letters t) = None

-- what a raw value of a scalar means in units, where that is a decimal with the unit
abbrev pub decimal_at : CodedData → ℕ → List ℕ → ℕ → Option ℤ
decimal_at k s unit raw =
    if (signal_at k s).is_array then None
    else option_and_then (units_of unit) (meaning k s (Scalar raw))

-- the raw values of a signal that mean decimals with the unit, with these
abbrev pub decimals : CodedData → ℕ → List ℕ → List (ℕ × ℤ)
decimals k s unit =
    flat_map (λ raw. option_map_or (λ z. (raw, z) ∷ []) (decimal_at k s unit raw) []) (scalars k s)

abbrev pub distance : ℤ → ℤ → ℕ
distance x z = unsigned_abs (x -ℤ z)

-- the first of those that are nearest to a decimal
abbrev pub nearest_of : ℤ → List (ℕ × ℤ) → Option (ℕ × ℤ)
nearest_of x ps =
    fold
    (λ b p. if option_map_or (λ q. nat_lt (distance x p.1) (distance x q.1)) b true then Some p else b)
    None ps

abbrev pub first_raw : Option (ℕ × ℤ) → Option ℕ
first_raw b = option_map (λ p. p.0) b

-- the nearest that isn't above a decimal, and the nearest that isn't below it; of the same the lowest
abbrev pub below : CodedData → ℕ → ℤ → List ℕ → Option ℕ
below k s x unit = first_raw (nearest_of x (filter (λ p. not (int_lt x p.1)) (decimals k s unit)))

abbrev pub above : CodedData → ℕ → ℤ → List ℕ → Option ℕ
above k s x unit = first_raw (nearest_of x (filter (λ p. not (int_lt p.1 x)) (decimals k s unit)))

-- the nearest, of two the lower
abbrev pub nearest : CodedData → ℕ → ℤ → List ℕ → Option ℕ
nearest k s x unit = first_raw (nearest_of x (decimals k s unit))

-- ---- solved for the raw value

abbrev pub is_mapped_within : Range → ℤ → ℤ → ℕ → Bool
is_mapped_within r low high n =
    let z = pos n *ℤ scaled_value r.scale +ℤ scaled_value r.offset in lies_within low high z

abbrev pub in_option_span : Option Span → ℕ → Bool
in_option_span None n = false
in_option_span (Some s) n = in_span s n
