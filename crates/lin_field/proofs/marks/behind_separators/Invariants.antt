use Rattle.std.proofs.Common.{◌≡◌, length}
use Rattle.lin_field.specs.Suspects.{behind_separators}
use Rattle.lin_field.proofs.marks.behind_separators.Given as goal

abbrev pub invariant-loop-rest : goal.invariant-loop-rest
invariant-loop-rest l = behind_separators l.rest ≡ behind_separators l.text

abbrev pub decreases-loop-rest : goal.decreases-loop-rest
decreases-loop-rest l = length l.rest
