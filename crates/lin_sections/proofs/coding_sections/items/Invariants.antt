use Rattle.std.proofs.Common.{◌≡◌, [], length}
use Rattle.lin_sections.specs.Reading.{with_item}
use Rattle.lin_sections.proofs.ReadingSteps.{lines_from}
use Rattle.lin_sections.proofs.coding_sections.items.Given as goal

abbrev pub invariant-loop-parser : goal.invariant-loop-parser
invariant-loop-parser l = lines_from (with_item l.most) (l.parser, (l.items.items, l.bad.items)) ≡ lines_from (with_item l.most) (l.fn.parser, ([], l.fn.bad.items))

abbrev pub decreases-loop-parser : goal.decreases-loop-parser
decreases-loop-parser l = length l.parser
