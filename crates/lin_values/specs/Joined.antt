-- A range that is added behind others, whose numbers are spans in order.
use Rattle.std.specs.Prelude.{ℕ, ◌+◌, List, [], ◌∷◌, ◌++◌, min, max, nat_le, if◌then◌else◌}
use Rattle.lin_values.specs.Layers.{part_between}
use Rattle.lin_values.specs.declared.layers.RangePart.{RangePart}
use Rattle.lin_values.specs.declared.layers.Span.{Span}

-- what is in none of the spans, from one number to another
abbrev pub gaps : ℕ → ℕ → ℕ → List Span → List RangePart
gaps from to item [] = part_between from (to + 1) item
gaps from to item (s ∷ ss) =
    if nat_le s.from to
    then part_between from s.from item ++ gaps (s.to + 1) to item ss
    else part_between from (to + 1) item

-- a span with the numbers of both
abbrev pub with_span : Span → Span → Span
with_span a b = record { from = min a.from b.from; to = max a.to b.to }

-- a span joined with those that begin up to a number, and the spans behind them
abbrev pub joined_span : Span → ℕ → List Span → Span × List Span
joined_span whole to [] = (whole, [])
joined_span whole to (s ∷ ss) =
    if nat_le s.from to then joined_span (with_span whole s) to ss else (whole, s ∷ ss)
