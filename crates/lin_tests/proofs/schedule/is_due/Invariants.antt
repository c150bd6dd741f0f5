use Rattle.lin_schedule.specs.Walker.{Walks}
use Rattle.lin_tests.proofs.schedule.is_due.Given as goal

abbrev pub invariant-loop : goal.invariant-loop
invariant-loop l = Walks l.fn.cluster l.walker
