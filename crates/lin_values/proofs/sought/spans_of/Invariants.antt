use Rattle.std.proofs.Common.{◌≡◌, ℕ, ◌≤◌, ◌<◌, length, take, get_or, option_map}
use Rattle.std.specs.Prelude.{All, AllPairs}
use Rattle.std.specs.List.{list_any}
use Rattle.lin_values.specs.Layers.{in_span, IsBefore, IsSomeSpan}
use Rattle.lin_values.specs.Raws.{sought_part}
use Rattle.lin_values.specs.declared.layers.RangePart.{RangePart}
use Rattle.lin_values.proofs.sought.spans_of.Given as goal

abbrev pub invariant-loop-part : goal.invariant-loop-part
invariant-loop-part l = record {
  found : (n : ℕ) → n < 65536 → list_any (λ s. in_span s n) l.spans.items ≡ list_any (λ p. sought_part l.encoding.items l.signal.bits (option_map (λ t. t.now) l.sought.text) l.sought.decimals l.sought.unit.now p n) (take l.part-index l.part-items);
  some : All IsSomeSpan l.spans.items;
  apart : AllPairs IsBefore l.spans.items;
  ahead : (j : ℕ) (d : RangePart) → l.part-index ≤ j → j < length l.part-items → All (λ s. s.to < (get_or l.part-items j d).span.from) l.spans.items;
}
