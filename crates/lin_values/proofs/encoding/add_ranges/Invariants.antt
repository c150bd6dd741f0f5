use Rattle.std.proofs.Common.{◌≡◌, ◌++◌, ℕ, take}
use Rattle.std.specs.Option.{option_or}
use Rattle.lin_values.specs.ItemNumbers.{range_at}
use Rattle.lin_values.specs.Layers.{item_in}
use Rattle.lin_values.specs.Warnings.{range_warnings}
use Rattle.lin_values.proofs.encoding.add_ranges.Given as goal

abbrev pub invariant-loop-number : goal.invariant-loop-number
invariant-loop-number l = record {
  warned : l.warned.items ≡ l.fn.warned.items ++ range_warnings (take l.number l.items);
  ranges : (raw : ℕ) → item_in l.ranges raw ≡ range_at (take l.number l.items) raw;
  layers : (raw : ℕ) → item_in l.layers raw ≡ option_or (item_in l.fn.layers raw) (range_at (take l.number l.items) raw);
}
