use Rattle.std.proofs.Common.{arith, sym}
use Rattle.lin_text.proofs.Growing.{grows-more, same-growth, texts-next}
use Rattle.lin_tool.specs.campaign.Page.{object_byte}
use Rattle.lin_tool.proofs.campaign.page.put_object_text.Goals as goal

pub loop-byte-preserved : goal.loop-byte-preserved
loop-byte-preserved g c =
    same-growth (sym (texts-next object_byte c.args.text.now c.loop-byte.byte-index _ (omega arith))) (grows-more c.loop-byte.invariant c.put_object_byte.ensures)
