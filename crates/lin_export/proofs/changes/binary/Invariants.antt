use Rattle.std.proofs.Common.{◌≡◌, ◌+◌, ◌≤◌, ◌++◌, length}
use Rattle.lin_export.specs.Vcd.{binary}
use Rattle.lin_export.proofs.changes.binary.Given as goal

abbrev pub invariant-loop-left : goal.invariant-loop-left
invariant-loop-left l = record {
  few : l.left ≤ l.fn.width;
  bits : l.bits.items ++ binary l.left l.fn.number ≡ binary l.fn.width l.fn.number;
  count : length l.bits.items + l.left ≡ l.fn.width;
}

abbrev pub decreases-loop-left : goal.decreases-loop-left
decreases-loop-left l = l.left
