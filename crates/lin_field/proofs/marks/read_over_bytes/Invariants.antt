use Rattle.std.proofs.Common.{◌-◌, length}
use Rattle.lin_field.proofs.ReadOver.{ReadOver}
use Rattle.lin_field.proofs.marks.read_over_bytes.Given as goal

abbrev pub invariant-loop-n : goal.invariant-loop-n
invariant-loop-n l = ReadOver l.fn.bytes l.bytes l.passed

abbrev pub decreases-loop-n : goal.decreases-loop-n
decreases-loop-n l = length l.initial.bytes - l.passed
