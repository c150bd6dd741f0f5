use Rattle.std.proofs.Common.{◌≡◌, length}
use Rattle.lin_ldf.specs.Forms.{tail}
use Rattle.lin_sections.specs.Configured.{with_node_block}
use Rattle.lin_sections.proofs.ReadingSteps.{lines_from}
use Rattle.lin_sections.proofs.configurable_lists.add_blocks.Given as goal

abbrev pub invariant-loop-parser : goal.invariant-loop-parser
invariant-loop-parser l = lines_from with_node_block (l.parser, l.all.items) ≡ lines_from with_node_block (tail l.fn.parser, l.fn.all.items)

abbrev pub decreases-loop-parser : goal.decreases-loop-parser
decreases-loop-parser l = length l.parser
