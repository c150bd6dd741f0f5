-- The numbers of the items that count for raw values, and what is told of an item by the ranges that
-- were added before it.
use Rattle.std.specs.Prelude.{ℕ, ◌==◌, ◌&&◌, ◌++◌, List, [], ◌∷◌, Option, if◌then◌else◌, is_some, nat_le}
use Rattle.std.specs.Prelude.{nat_lt}
use Rattle.std.specs.List.{list_any, position_from}
use Rattle.lin_cluster.specs.FindingsNames.{at_place, when}
use Rattle.lin_cluster.specs.declared.finding.Finding.{Finding}
use Rattle.lin_cluster.specs.declared.finding.FindingKind.TheVariants as finding
use Rattle.lin_values.specs.Coded.{has_value, in_range}
use Rattle.lin_values.specs.Layers.{item_in, numbers_of}
use Rattle.lin_values.specs.Value.{fits}
use Rattle.lin_values.specs.declared.codings.Item.{Item}
use Rattle.lin_values.specs.declared.codings.Item.TheVariants.{Logical, Physical, Bcd, Ascii}
use Rattle.lin_values.specs.declared.codings.PlacedItem.{PlacedItem}
use Rattle.lin_values.specs.declared.layers.RangePart.{RangePart}
use Rattle.lin_values.specs.declared.layers.Span.{Span}

-- the number of the first item that is this value
abbrev pub item_with_value : List PlacedItem → ℕ → Option ℕ
item_with_value ps raw = position_from (λ p. has_value raw p.item) 0 ps

-- the number of the first item that is a range with this value
abbrev pub range_at : List PlacedItem → ℕ → Option ℕ
range_at ps raw = position_from (λ p. in_range raw p.item) 0 ps

abbrev pub value_told : List RangePart → PlacedItem → Item → List Finding
value_told ls p (Logical v text) =
    when (is_some (item_in ls v)) (at_place finding.LogicalTwice p.place)
value_told ls p (Physical from to scale offset unit) = []
value_told ls p Bcd = []
value_told ls p Ascii = []

abbrev pub span_told : List RangePart → Span → PlacedItem → List Finding
span_told ls s p =
    when (nat_lt s.to s.from) (at_place finding.MinAboveMax p.place)
    ++ when (nat_le s.from s.to && list_any (λ n. is_some (item_in ls n)) (numbers_of s))
    (at_place finding.RangesOverlap p.place)

abbrev pub range_told : List RangePart → PlacedItem → Item → List Finding
range_told ls p (Logical v text) = []
range_told ls p (Physical from to scale offset unit) =
    if fits to scale offset
    then span_told ls (record { from = from; to = to }) p
    ++ when (scale.digits == 0) (at_place finding.ZeroScale p.place)
    else at_place finding.BadEncoding p.place ∷ []
range_told ls p Bcd = []
range_told ls p Ascii = []
