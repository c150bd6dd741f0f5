use Rattle.std.proofs.Common.{◌≡◌, ◌++◌, flat_map, length}
use Rattle.lin_sections.specs.Attributes.{block_of}
use Rattle.lin_sections.specs.Statements.{statements}
use Rattle.lin_sections.proofs.attribute_blocks.add_blocks.Given as goal

abbrev pub invariant-loop-parser : goal.invariant-loop-parser
invariant-loop-parser l = l.blocks.items ++ flat_map block_of (statements l.parser) ≡ l.fn.blocks.items ++ flat_map block_of (statements l.fn.parser)

abbrev pub decreases-loop-parser : goal.decreases-loop-parser
decreases-loop-parser l = length l.parser
