-- Ranges of numbers that lie over each other, and the numbers for which each counts.
use Rattle.std.specs.Prelude.{◌≡◌, ℕ, ◌+◌, ◌-◌, ◌<◌, ◌≤◌, ◌&&◌, Bool, List, [], ◌∷◌, Option, Some}
use Rattle.std.specs.Prelude.{None, find, min, max, nat_le, nat_lt, All, AllPairs, count_by}
use Rattle.std.specs.Prelude.{if◌then◌else◌}
use Rattle.std.specs.List.{list_any, range_with_len}
use Rattle.std.specs.Option.{option_map, option_or}
use Rattle.lin_values.specs.declared.layers.RangePart.{RangePart}
use Rattle.lin_values.specs.declared.layers.Span.{Span}

abbrev pub in_span : Span → ℕ → Bool
in_span s n = nat_le s.from n && nat_le n s.to

-- one number at least, of 16 bits
abbrev pub IsSomeSpan : Span → Type 0
IsSomeSpan s = (s.from ≤ s.to) × (s.to < 65536)

abbrev pub numbers_of : Span → List ℕ
numbers_of s = range_with_len s.from (s.to + 1 - s.from)

abbrev pub common_span : Span → Span → Option Span
common_span a b =
    if nat_le (max a.from b.from) (min a.to b.to)
    then Some (record { from = max a.from b.from; to = min a.to b.to }) else None

-- the item that counts for a number
abbrev pub item_in : List RangePart → ℕ → Option ℕ
item_in ps n = option_map (λ p. p.item) (find (λ p. in_span p.span n) ps)

-- an item was added, which counts for the numbers of which this holds, unless another does
abbrev pub AddsItem : (ℕ → Bool) → ℕ → List RangePart → List RangePart → Type 0
AddsItem counts item before after =
    (n : ℕ) → item_in after n ≡ option_or (item_in before n) (if counts n then Some item else None)

-- what counts for the numbers from one to before another
abbrev pub part_between : ℕ → ℕ → ℕ → List RangePart
part_between from end item =
    if nat_lt from end
    then record { span = record { from = from; to = end - 1 }; item = item } ∷ [] else []

abbrev pub IsBefore : Span → Span → Type 0
IsBefore a b = a.to < b.from

abbrev pub AreInOrder : List RangePart → Type 0
AreInOrder ps =
    All (λ p. p.span.from ≤ p.span.to) ps × AllPairs (λ p q. IsBefore p.span q.span) ps

-- the spans have the numbers that parts have, each number once, and are in order
pub record IsLayered (covered : List Span) (ps : List RangePart) : Type 0 where
  pub some : All (λ s. s.from ≤ s.to) covered
  pub ordered : AllPairs IsBefore covered
  pub full : All (λ p. p.span.from ≤ p.span.to) ps
  pub same : (n : ℕ)
      → list_any (λ s. in_span s n) covered ≡ list_any (λ p. in_span p.span n) ps
  pub once : (n : ℕ) → count_by (λ p. in_span p.span n) ps ≤ 1
