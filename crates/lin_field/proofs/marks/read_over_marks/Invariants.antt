use Rattle.std.proofs.Common.{◌≡◌, take}
use Rattle.lin_field.specs.Marks.{text_with_blanks}
use Rattle.lin_field.proofs.marks.read_over_marks.Given as goal

abbrev pub invariant-loop-mark : goal.invariant-loop-mark
invariant-loop-mark l = l.bytes ≡ text_with_blanks l.fn.bytes (take l.mark-index l.marks)
