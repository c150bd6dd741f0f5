use Rattle.std.proofs.Common.{◌≡◌, ◌++◌}
use Rattle.std.specs.Prelude.{flat_map}
use Rattle.lin_values.specs.Warnings.{item_warnings}
use Rattle.lin_values.proofs.coded.all_encodings.Given as goal

abbrev pub invariant-loop-one : goal.invariant-loop-one
invariant-loop-one l = record {
  same : l.encodings.items ≡ l.yielded;
  warned : l.warned.items ≡ l.fn.warned.items ++ flat_map (λ t. item_warnings t.items) l.yielded;
}
