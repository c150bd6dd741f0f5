use Rattle.lin_log.proofs.Ends.{grows-last}
use Rattle.lin_text.proofs.Growing.{grows-more}
use Rattle.lin_tool.proofs.campaign.csv_rows.put_place.Goals as goal

pub returns-in-Some : goal.returns-in-Some
returns-in-Some g c =
    rw c.in-Some.is
    (grows-more (grows-more c.put_byte.ensures (rw c.table_name.ensures at c.put.ensures))
    (grows-more (rw c.from.ensures at c.put_numbered.ensures) (grows-last (grows-more c.put_byte-in-Some.ensures (rw c.slot_name.ensures at c.put-in-Some.ensures)))))

pub returns-in-None : goal.returns-in-None
returns-in-None g c = rw c.in-None.is c.put_text.ensures
