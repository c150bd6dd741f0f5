use Rattle.lin_text.proofs.Growing.{grows-more, same-growth}
use Rattle.lin_live.proofs.SaidWords.{pending-spaced}
use Rattle.lin_live.proofs.answer_texts.put_idle.Goals as goal

pub returns-in-len1-up : goal.returns-in-len1-up
returns-in-len1-up g c =
    same-growth (pending-spaced c.args.cluster.now c.args.pending.now c.in-len1-up.len_at_least) (grows-more c.put_byte.ensures c.put_pending.ensures)
