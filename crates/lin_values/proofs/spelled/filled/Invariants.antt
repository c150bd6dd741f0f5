use Rattle.std.proofs.Common.{◌≡◌, ◌≤◌, ◌-◌, ◌++◌, length}
use Rattle.std.specs.Prelude.{replicate}
use Rattle.lin_values.proofs.spelled.filled.Given as goal

abbrev pub invariant-loop-all : goal.invariant-loop-all
invariant-loop-all l = record {
  items : l.all.items ≡ l.initial.all.items ++ replicate (length l.all.items - length l.initial.all.items) 0;
  long : length l.initial.all.items ≤ length l.all.items;
  within : length l.initial.all.items ≤ l.size → length l.all.items ≤ l.size;
  fits : length l.all.items ≤ 8;
}

abbrev pub decreases-loop-all : goal.decreases-loop-all
decreases-loop-all l = l.size - length l.all.items
