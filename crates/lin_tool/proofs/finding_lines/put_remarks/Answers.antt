use Rattle.std.proofs.Common.{sym, arith}
use Rattle.lin_text.proofs.Growing.{grows-more, grows-nothing, same-growth, texts-next}
use Rattle.lin_tool.specs.Telling.{remark_line}
use Rattle.lin_tool.proofs.finding_lines.put_remarks.Goals as goal

pub loop-remark-init : goal.loop-remark-init
loop-remark-init g c = grows-nothing c.args.out.now

pub loop-remark-preserved : goal.loop-remark-preserved
loop-remark-preserved g c =
    same-growth (sym (texts-next remark_line c.args.remarks.now c.loop-remark.remark-index _ (omega arith)))
    (grows-more c.loop-remark.invariant (rw c.remark_word.ensures at c.put_reported.ensures))
