use Rattle.std.proofs.Common.{take, flat_map}
use Rattle.lin_text.specs.Written.{Grows}
use Rattle.lin_tool.specs.Telling.{remark_line}
use Rattle.lin_tool.proofs.finding_lines.put_remarks.Given as goal

abbrev pub invariant-loop-remark : goal.invariant-loop-remark
invariant-loop-remark g l = Grows g.W.Write.contents l.initial.out l.out (flat_map remark_line (take l.remark-index l.remarks))
