use Rattle.lin_text.proofs.Growing.{grows-more}
use Rattle.lin_tool.proofs.campaign.text.put_place.Goals as goal

pub returns : goal.returns
returns g c =
    rw c.in-Some.is
    (grows-more c.put_text.ensures
    (grows-more (rw c.table_name.ensures at c.put.ensures)
    (grows-more (rw c.from.ensures at c.put_numbered.ensures)
    (grows-more c.put_byte.ensures (grows-more (rw c.slot_name.ensures at c.put-2.ensures) c.put_byte-2.ensures)))))
