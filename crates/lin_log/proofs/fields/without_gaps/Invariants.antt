use Rattle.std.proofs.Common.{◌≡◌, length}
use Rattle.lin_log.specs.Said.{fields}
use Rattle.lin_log.proofs.fields.without_gaps.Given as goal

abbrev pub invariant-loop-rest : goal.invariant-loop-rest
invariant-loop-rest g l = fields (g.N.Naming.language l.names).free l.rest ≡ fields (g.N.Naming.language l.names).free l.fn.line

abbrev pub decreases-loop-rest : goal.decreases-loop-rest
decreases-loop-rest g l = length l.rest
