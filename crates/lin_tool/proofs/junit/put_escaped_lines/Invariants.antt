use Rattle.std.proofs.Common.{◌∷◌, [], map}
use Rattle.lin_log.specs.Judged.{left_length, lines_left}
use Rattle.lin_tool.specs.Junit.{xml_lines, xml_text}
use Rattle.lin_tool.specs.Separated.{with_separators}
use Rattle.lin_tool.proofs.Remaining.{PutsUpTo}
use Rattle.lin_tool.proofs.junit.put_escaped_lines.Given as goal

abbrev pub invariant-loop-left : goal.invariant-loop-left
invariant-loop-left g l = PutsUpTo g.W.Write.contents l.initial.out l.out (xml_lines l.lines) (with_separators l.mark (10 ∷ []) (map xml_text (lines_left l.left)))

abbrev pub decreases-loop-left : goal.decreases-loop-left
decreases-loop-left g l = left_length l.left
