use Rattle.lin_text.proofs.Growing.{grows-more}
use Rattle.lin_tool.proofs.campaign.page.put_head.Goals as goal

pub returns : goal.returns
returns g c =
    grows-more c.put_text.ensures
    (grows-more (rw c.as_bytes.ensures.value at c.put_field.ensures)
    (grows-more c.put_byte.ensures (grows-more c.put_script.ensures (rw (c.cluster.ensures, c.log.ensures.entries) at c.put_slots.ensures))))
