use Rattle.lin_text.proofs.Growing.{grows-more, same-growth}
use Rattle.lin_tool.proofs.campaign.summary.put_worst.Goals as goal

pub returns-in-Some : goal.returns-in-Some
returns-in-Some g c =
    rw c.in-Some.is
    (grows-more c.put_text.ensures (grows-more c.put_faults.ensures (grows-more c.put_text-in-Some.ensures (grows-more c.put_number.ensures (same-growth c.line_word.ensures c.put_text-in-Some-2.ensures)))))
