use Rattle.std.proofs.Common.{◌≡◌, ◌++◌, ℕ, take}
use Rattle.lin_values.specs.ItemNumbers.{item_with_value}
use Rattle.lin_values.specs.Layers.{item_in}
use Rattle.lin_values.specs.Warnings.{value_warnings}
use Rattle.lin_values.proofs.encoding.add_values.Given as goal

abbrev pub invariant-loop-number : goal.invariant-loop-number
invariant-loop-number l = record {
  warned : l.warned.items ≡ l.fn.warned.items ++ value_warnings (take l.number l.items);
  layers : (raw : ℕ) → item_in l.layers raw ≡ item_with_value (take l.number l.items) raw;
}
