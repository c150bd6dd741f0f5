use Rattle.lin_schedule.specs.Walker.{Walks}
use Rattle.lin_tests.proofs.schedule.expect_places.Given as goal

abbrev pub invariant-loop-by : goal.invariant-loop-by
invariant-loop-by g l = Walks l.fn.cluster l.walker
