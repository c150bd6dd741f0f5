use Rattle.std.proofs.Common.{◌≡◌, ℕ, ◌<◌, ◌^◌, take, option_map}
use Rattle.std.specs.Prelude.{option_and_then}
use Rattle.lin_values.specs.Coded.{item_by, item_for}
use Rattle.lin_values.specs.Layers.{item_in, AreInOrder}
use Rattle.lin_values.specs.Nearest.{distance_above, distance_below, near_of, parts_decimal, IsLeast}
use Rattle.lin_values.proofs.nearest_raws.neighbours_in.Given as goal

abbrev pub invariant-loop-part : goal.invariant-loop-part
invariant-loop-part l = record {
  ordered : AreInOrder l.part-items;
  found : (raw : ℕ) → raw < 2 ^ 64 → option_and_then (item_by l.encoding.items) (item_in l.part-items raw) ≡ item_for l.encoding.items raw;
  below : IsLeast (λ n. option_and_then (distance_below l.sought) (parts_decimal l.encoding.items l.signal.bits l.unit (take l.part-index l.part-items) n)) (option_map near_of l.found.below);
  above : IsLeast (λ n. option_and_then (distance_above l.sought) (parts_decimal l.encoding.items l.signal.bits l.unit (take l.part-index l.part-items) n)) (option_map near_of l.found.above);
}
