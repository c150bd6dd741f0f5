use Rattle.std.proofs.Common.{◌≡◌, length}
use Rattle.lin_ldf.specs.Forms.{tail}
use Rattle.lin_sections.specs.Reading.{found_of}
use Rattle.lin_sections.proofs.ReadingSteps.{lines_from, one_type}
use Rattle.lin_sections.proofs.coding_sections.add_types.Given as goal

abbrev pub invariant-loop-parser : goal.invariant-loop-parser
invariant-loop-parser l = lines_from (one_type l.most) (l.parser, found_of l.found) ≡ lines_from (one_type l.most) (tail l.fn.parser, found_of l.fn.found)

abbrev pub decreases-loop-parser : goal.decreases-loop-parser
decreases-loop-parser l = length l.parser
