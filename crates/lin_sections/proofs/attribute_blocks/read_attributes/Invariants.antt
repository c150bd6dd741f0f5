use Rattle.std.proofs.Common.{◌≡◌, ◌++◌, flat_map, length}
use Rattle.lin_ldf.specs.Stream.{start_of}
use Rattle.lin_ldf.specs.Symbols.{symbols_in}
use Rattle.lin_sections.specs.Attributes.{attribute_blocks, node_attributes}
use Rattle.lin_sections.specs.Statements.{statements}
use Rattle.lin_sections.proofs.attribute_blocks.read_attributes.Given as goal

abbrev pub invariant-loop-parser : goal.invariant-loop-parser
invariant-loop-parser l = l.blocks.items ++ flat_map attribute_blocks (statements l.parser) ≡ node_attributes (symbols_in l.fn.source (start_of l.fn.source).tokens)

abbrev pub decreases-loop-parser : goal.decreases-loop-parser
decreases-loop-parser l = length l.parser
