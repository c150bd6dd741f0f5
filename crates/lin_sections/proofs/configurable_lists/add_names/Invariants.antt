use Rattle.std.proofs.Common.{◌≡◌, length}
use Rattle.lin_ldf.specs.Forms.{tail}
use Rattle.lin_sections.specs.Configured.{with_listed_name}
use Rattle.lin_sections.proofs.ReadingSteps.{lines_from}
use Rattle.lin_sections.proofs.configurable_lists.add_names.Given as goal

abbrev pub invariant-loop-parser : goal.invariant-loop-parser
invariant-loop-parser l = lines_from with_listed_name (l.parser, l.names.items) ≡ lines_from with_listed_name (tail l.fn.parser, l.fn.names.items)

abbrev pub decreases-loop-parser : goal.decreases-loop-parser
decreases-loop-parser l = length l.parser
