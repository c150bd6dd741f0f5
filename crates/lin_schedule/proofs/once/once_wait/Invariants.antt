use Rattle.lin_schedule.specs.Once.{IsLeastOf}
use Rattle.lin_schedule.proofs.once.once_wait.Given as goal

abbrev pub invariant-loop-sporadic : goal.invariant-loop-sporadic
invariant-loop-sporadic l = IsLeastOf l.cluster l.table l.frames l.sporadic l.least
