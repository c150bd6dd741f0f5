use Rattle.std.proofs.Common.{arith}
use Rattle.lin_export.proofs.cluster_lists.slot_times.delay_of.Goals as goal

pub overflow_add-delay : goal.overflow_add-delay
overflow_add-delay c = let v = c.loop-entry.invariant in let few = v.few in let delay = c.delay_us.ensures.few in omega arith
