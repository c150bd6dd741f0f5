use Rattle.std.proofs.Common.{◌≡◌, length}
use Rattle.lin_field.specs.Suspects.{has_suspect}
use Rattle.lin_field.proofs.marks.has_suspect.Given as goal

abbrev pub invariant-loop-n : goal.invariant-loop-n
invariant-loop-n l = has_suspect l.rest ≡ has_suspect l.source

abbrev pub decreases-loop-n : goal.decreases-loop-n
decreases-loop-n l = length l.rest
