use Rattle.std.proofs.Common.{◌≡◌, ◌++◌, flat_map, length}
use Rattle.lin_sections.specs.Statements.{statements}
use Rattle.lin_sections.specs.Unknown.{unknown_of_node}
use Rattle.lin_sections.proofs.unknown.add_nodes.Given as goal

abbrev pub invariant-loop-parser : goal.invariant-loop-parser
invariant-loop-parser l = l.found.items ++ flat_map unknown_of_node (statements l.parser) ≡ l.fn.found.items ++ flat_map unknown_of_node (statements l.fn.parser)

abbrev pub decreases-loop-parser : goal.decreases-loop-parser
decreases-loop-parser l = length l.parser
