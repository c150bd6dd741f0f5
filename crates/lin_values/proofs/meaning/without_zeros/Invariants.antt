use Rattle.std.proofs.Common.{◌≡◌, length, reverse}
use Rattle.lin_values.specs.Meaning.{without_front_zeros}
use Rattle.lin_values.proofs.meaning.without_zeros.Given as goal

abbrev pub invariant-loop-rest : goal.invariant-loop-rest
invariant-loop-rest l = without_front_zeros (reverse l.rest) ≡ without_front_zeros (reverse l.bytes)

abbrev pub decreases-loop-rest : goal.decreases-loop-rest
decreases-loop-rest l = length l.rest
