use Rattle.lin_text.proofs.Growing.{grows-more}
use Rattle.lin_export.proofs.first_slots.FirstSlotsEntryFormat.put_head.Goals as goal

pub returns : goal.returns
returns g c = grows-more c.put.ensures c.put-2.ensures
