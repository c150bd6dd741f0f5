-- The raw values next to a decimal, as they are looked at one after the other.
use Rattle.std.specs.Prelude.{◌≡◌, ℕ, ◌<◌, ◌≤◌, ◌==◌, ◌&&◌, ◌||◌, true, false, List, Option, Some, None}
use Rattle.std.specs.Prelude.{if◌then◌else◌, nat_le, nat_lt, option_and_then, int_lt, unsigned_abs}
use Rattle.std.specs.Prelude.{ℤ, ◌≤ℤ◌, ◌-ℤ◌}
use Rattle.std.specs.Option.{option_map}
use lib.IntN.{pos, ◌+ℤ◌, ◌*ℤ◌}
use Rattle.lin_values.specs.Coded.{item_by, item_for, range_in, signal_at, CodedData, RangeData}
use Rattle.lin_values.specs.Layers.{in_span, item_in}
use Rattle.lin_values.specs.Raws.{decimal_at, distance, has_unit}
use Rattle.lin_values.specs.Value.{scaled_value}
use Rattle.lin_values.specs.Warnings.{greatest_raw}
use Rattle.lin_values.specs.declared.encoding.Range.{Range}
use Rattle.lin_values.specs.declared.codings.Item.{Item}
use Rattle.lin_values.specs.declared.codings.PlacedItem.{PlacedItem}
use Rattle.lin_values.specs.declared.layers.RangePart.{RangePart}
use Rattle.lin_values.specs.declared.layers.Span.{Span}
use Rattle.lin_values.specs.declared.nearest_raws.Near.{Near}

-- ---- a raw value and its distance

abbrev pub near_of : Near → ℕ × ℕ
near_of n = (n.raw, n.distance)

-- of one that isn't above a decimal, and of one that isn't below it
abbrev pub distance_below : ℤ → ℤ → Option ℕ
distance_below x z = if int_lt x z then None else Some (distance x z)

abbrev pub distance_above : ℤ → ℤ → Option ℕ
distance_above x z = if int_lt z x then None else Some (distance x z)

-- the nearer of two, and of two as near the first
abbrev pub with_near : ℕ × ℕ → Option (ℕ × ℕ) → Option (ℕ × ℕ)
with_near p None = Some p
with_near p (Some q) = if nat_lt p.1 q.1 then Some p else Some q

abbrev pub with_raw : Option ℕ → ℕ → Option (ℕ × ℕ) → Option (ℕ × ℕ)
with_raw None raw b = b
with_raw (Some d) raw b = with_near (raw, d) b

-- the nearer of two, and of two as near the lower
abbrev pub nearer : Option (ℕ × ℕ) → Option (ℕ × ℕ) → Option (ℕ × ℕ)
nearer None b = b
nearer (Some p) None = Some p
nearer (Some p) (Some q) =
    if nat_lt p.1 q.1 || p.1 == q.1 && nat_lt p.0 q.0 then Some p else Some q

-- ---- the lowest raw value of those with the least distance

abbrev pub IsAmong : (ℕ → Option ℕ) → Option (ℕ × ℕ) → Type 0
IsAmong f None = Unit {0}
IsAmong f (Some p) = f p.0 ≡ Some p.1

abbrev pub IsNearer : Option (ℕ × ℕ) → ℕ → ℕ → Type 0
IsNearer None n d = ⊥
IsNearer (Some p) n d = (p.1 ≤ d) × (n < p.0 → p.1 < d)

pub record IsLeast (f : ℕ → Option ℕ) (b : Option (ℕ × ℕ)) : Type 0 where
  pub among : IsAmong f b
  pub least : (n d : ℕ) → f n ≡ Some d → IsNearer b n d

-- ---- the raw values of a span

-- what is left of a distance by so many steps
abbrev pub left_by : ℤ → ℤ → ℕ → ℤ
left_by scale distance n = distance -ℤ pos n *ℤ scale

-- one number is on the same side as another, and as near, or nearer if it is higher
abbrev pub IsAtLeastAsNear : ℤ → ℤ → ℕ → ℕ → Type 0
IsAtLeastAsNear scale distance c n =
    (pos 0 ≤ℤ left_by scale distance n → pos 0 ≤ℤ left_by scale distance c)
    × (left_by scale distance n ≤ℤ pos 0 → left_by scale distance c ≤ℤ pos 0)
    × (unsigned_abs (left_by scale distance c) ≤ unsigned_abs (left_by scale distance n))
    × (n < c
    → unsigned_abs (left_by scale distance c) < unsigned_abs (left_by scale distance n))

-- numbers of a span are added behind all that were there
pub record IsExtended (span : Span) (h f g : ℕ → Option ℕ) : Type 0 where
  pub inside : (n : ℕ) → in_span span n ≡ true → g n ≡ h n
  pub outside : (n : ℕ) → in_span span n ≡ false → g n ≡ f n
  pub before : (n d : ℕ) → f n ≡ Some d → n < span.from

-- the least stays the least, when numbers of a span are added
abbrev pub AddsSpan : Span → (ℕ → Option ℕ) → Option Near → Option Near → Type 0
AddsSpan span h before after =
    (f g : ℕ → Option ℕ) → IsExtended span h f g
    → IsLeast f (option_map near_of before) → IsLeast g (option_map near_of after)

abbrev pub range_value : Range → ℕ → ℤ
range_value r n = pos n *ℤ scaled_value r.scale +ℤ scaled_value r.offset

-- ---- the raw values of an encoding, and of a signal

abbrev pub range_decimal : List ℕ → ℕ → RangeData → Option ℤ
range_decimal unit n r =
    if has_unit unit r.unit then Some (pos n *ℤ scaled_value r.scale +ℤ scaled_value r.offset) else None

abbrev pub item_decimal : List ℕ → ℕ → Item → Option ℤ
item_decimal unit n i = option_and_then (range_decimal unit n) (range_in i)

-- by the number of the item
abbrev pub numbered_decimal : List PlacedItem → ℕ → List ℕ → Option ℕ → ℕ → Option ℤ
numbered_decimal ps bits unit number n =
    if nat_le n (greatest_raw bits)
    then option_and_then (item_decimal unit n) (option_and_then (item_by ps) number) else None

abbrev pub parts_decimal : List PlacedItem → ℕ → List ℕ → List RangePart → ℕ → Option ℤ
parts_decimal ps bits unit parts n = numbered_decimal ps bits unit (item_in parts n) n

abbrev pub raw_decimal : List PlacedItem → ℕ → List ℕ → ℕ → Option ℤ
raw_decimal ps bits unit n =
    if nat_le n (greatest_raw bits) then option_and_then (item_decimal unit n) (item_for ps n) else None

-- the distances of the raw values of a part, and of an encoding, from a decimal
abbrev pub part_distance : (ℤ → Option ℕ) → List PlacedItem → ℕ → List ℕ → RangePart → ℕ → Option ℕ
part_distance distance ps bits unit part n =
    option_and_then distance (numbered_decimal ps bits unit (Some part.item) n)

abbrev pub raw_distance : (ℤ → Option ℕ) → List PlacedItem → ℕ → List ℕ → ℕ → Option ℕ
raw_distance distance ps bits unit n = option_and_then distance (raw_decimal ps bits unit n)

abbrev pub signal_decimal : CodedData → ℕ → List ℕ → ℕ → Option ℤ
signal_decimal k s unit n =
    if nat_le n (greatest_raw (signal_at k s).bits) then decimal_at k s unit n else None
