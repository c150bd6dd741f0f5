use Rattle.std.proofs.Common.{◌≡◌, ℕ, Bool, false, map, take}
use Rattle.std.specs.Prelude.{◌==◌, ◌&&◌, replicate, zip}
use Rattle.std.specs.List.{list_any, range_with_len}
use Rattle.lin_sections.proofs.diff.entry_pairs.moved_entries.Given as goal

abbrev pub invariant-loop-place : goal.invariant-loop-place
invariant-loop-place l = l.by_place.items ≡ replicate l._place false

abbrev pub invariant-loop-pair : goal.invariant-loop-pair
invariant-loop-pair l =
    l.by_place.items
    ≡ map (λ p. list_any (λ (x : ℕ × Bool). x.1 && x.0 == p) (zip (take l.pair l.places) (take l.pair l.by_pair.items)))
    (range_with_len 0 l.count)
