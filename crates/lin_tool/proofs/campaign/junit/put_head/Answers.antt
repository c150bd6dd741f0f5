use Rattle.lin_text.proofs.Growing.{grows-more}
use Rattle.lin_tool.proofs.campaign.junit.put_head.Goals as goal

pub returns : goal.returns
returns g c =
    grows-more c.put_text.ensures
    (grows-more (rw c.as_bytes.ensures.value at c.put_escaped.ensures) (grows-more c.put_text-2.ensures (grows-more c.put_number.ensures c.put_text-3.ensures)))
