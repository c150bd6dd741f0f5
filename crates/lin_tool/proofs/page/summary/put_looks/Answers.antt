use Rattle.std.proofs.Common.{sym, arith}
use Rattle.lin_text.proofs.Growing.{grows-more, same-growth, texts-next}
use Rattle.lin_tool.specs.Page.{look_count}
use Rattle.lin_tool.proofs.page.summary.put_looks.Goals as goal

pub loop-look-preserved : goal.loop-look-preserved
loop-look-preserved g c =
    same-growth (sym (texts-next (look_count c.args.log.now.entries) c.all-look-items.result.now c.loop-look.look-index _ (omega arith)))
    (grows-more c.loop-look.invariant (grows-more c.put_text.ensures (rw (c.word.ensures, c.count.ensures) at c.put_count.ensures)))
