use Rattle.std.proofs.Common.{◌≡◌, ◌++◌, flat_map}
use Rattle.lin_frame.specs.Words.{numbers}
use Rattle.lin_bench.specs.RulesInForce.{own_limit_lines_of}
use Rattle.lin_bench.proofs.rules_in_force.add_own_limits.Given as goal

abbrev pub invariant-loop-node : goal.invariant-loop-node
invariant-loop-node l = l.lines.items ≡ l.fn.lines.items ++ flat_map (own_limit_lines_of l.cluster l.limits) (numbers l.node)
