use Rattle.std.proofs.Common.{ap, sym}
use Rattle.lin_text.proofs.Growing.{grows-more, same-growth}
use Rattle.lin_log.specs.CallerTexts.{seen_texts}
use Rattle.lin_log.proofs.CallerTexts.{first-and-rest}
use Rattle.lin_log.proofs.caller_texts.put_texts.Goals as goal

pub returns-in-len1-up : goal.returns-in-len1-up
returns-in-len1-up g c =
    same-growth (sym (ap (seen_texts c.args.gap.now) (first-and-rest c.args.texts.now c.first-item.result c.in-len1-up.len_at_least c.first-item.is)))
    (grows-more (rw c.as_slice.ensures at c.put_seen.ensures) c.put_all_seen.ensures)
