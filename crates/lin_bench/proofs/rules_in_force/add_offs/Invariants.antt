use Rattle.std.proofs.Common.{◌≡◌, ◌++◌, flat_map}
use Rattle.lin_frame.specs.Words.{numbers}
use Rattle.lin_bench.specs.RulesInForce.{off_lines_of}
use Rattle.lin_bench.proofs.rules_in_force.add_offs.Given as goal

abbrev pub invariant-loop-node : goal.invariant-loop-node
invariant-loop-node l = l.lines.items ≡ l.fn.lines.items ++ flat_map (off_lines_of l.cluster l.offs) (numbers l.node)
