use Rattle.std.proofs.Common.{◌≤◌}
use Rattle.lin_bench.proofs.carried.last_open.Given as goal

abbrev pub invariant-loop-left : goal.invariant-loop-left
invariant-loop-left l = l.left ≤ l.end

abbrev pub decreases-loop-left : goal.decreases-loop-left
decreases-loop-left l = l.left
