use Rattle.std.proofs.Common.{◌≡◌, length, []}
use Rattle.lin_ldf.specs.Forms.{tail}
use Rattle.lin_sections.specs.Configured.{with_attribute}
use Rattle.lin_sections.proofs.ReadingSteps.{lines_from}
use Rattle.lin_sections.proofs.configurable_lists.listed_names.Given as goal

abbrev pub invariant-loop-parser : goal.invariant-loop-parser
invariant-loop-parser l = lines_from with_attribute (l.parser, l.names.items) ≡ lines_from with_attribute (tail l.fn.parser, [])

abbrev pub decreases-loop-parser : goal.decreases-loop-parser
decreases-loop-parser l = length l.parser
