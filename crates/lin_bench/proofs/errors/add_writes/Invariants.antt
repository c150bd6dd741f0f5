use Rattle.std.proofs.Common.{◌≡◌, ◌++◌, filter_map, take}
use Rattle.lin_core.specs.Core.{past_of}
use Rattle.lin_bench.specs.Errors.{error_told}
use Rattle.lin_bench.proofs.errors.add_writes.Given as goal

abbrev pub invariant-loop-signal : goal.invariant-loop-signal
invariant-loop-signal l =
    l.steps.items
    ≡ l.fn.steps.items
    ++ filter_map (error_told l.core.cluster (past_of l.core) l.ended l.offs) (take l.signal-index l.core.cluster.errors)
