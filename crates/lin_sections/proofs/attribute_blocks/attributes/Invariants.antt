use Rattle.std.proofs.Common.{◌≡◌, ◌++◌, length}
use Rattle.lin_sections.specs.Statements.{statements}
use Rattle.lin_sections.proofs.attribute_blocks.attributes.Given as goal

abbrev pub invariant-loop-found : goal.invariant-loop-found
invariant-loop-found l = l.found.items ++ statements l.parser ≡ statements l.fn.parser

abbrev pub decreases-loop-found : goal.decreases-loop-found
decreases-loop-found l = length l.parser
