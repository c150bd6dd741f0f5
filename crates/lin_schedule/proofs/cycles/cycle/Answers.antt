use Rattle.std.proofs.Common.{arith}
use Rattle.lin_schedule.proofs.cycles.cycle.Goals as goal

pub overflow_add-time : goal.overflow_add-time
overflow_add-time c = let few = c.loop-entry.invariant.few in let delay = c.delay_us.ensures.few in omega arith
