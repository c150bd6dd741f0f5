use Rattle.std.proofs.Common.{flat_map}
use Rattle.lin_log.specs.Judged.{left_length, lines_left}
use Rattle.lin_tool.specs.campaign.Page.{page_line, page_lines, without_empty_last}
use Rattle.lin_tool.proofs.Remaining.{PutsUpTo}
use Rattle.lin_tool.proofs.campaign.page.put_script.Given as goal

abbrev pub invariant-loop-left : goal.invariant-loop-left
invariant-loop-left g l = PutsUpTo g.W.Write.contents l.initial.out l.out (page_lines l.script) (flat_map page_line (without_empty_last (lines_left l.left)))

abbrev pub decreases-loop-left : goal.decreases-loop-left
decreases-loop-left g l = left_length l.left
