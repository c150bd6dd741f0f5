use Rattle.std.proofs.Common.{◌≡◌, ◌++◌, length}
use Rattle.lin_bench.specs.Strict.{quiet_tests}
use Rattle.lin_bench.proofs.strict.quiet_tests.Given as goal

-- the tests so far, and those of the lines that are left
abbrev pub invariant-loop-left : goal.invariant-loop-left
invariant-loop-left l = l.quiet.items ++ quiet_tests l.left ≡ quiet_tests l.lines

abbrev pub decreases-loop-left : goal.decreases-loop-left
decreases-loop-left l = length l.left
