use Rattle.lin_text.proofs.Growing.{grows-more}
use Rattle.lin_export.proofs.slot_meanings.put_member.Goals as goal

pub returns-in-Texts : goal.returns-in-Texts
returns-in-Texts g c = rw c.in-Texts.is (grows-more c.put_quoted.ensures (grows-more c.put_byte.ensures c.put_text.ensures))

pub returns-in-Quantities : goal.returns-in-Quantities
returns-in-Quantities g c = rw c.in-Quantities.is (grows-more c.put_quoted.ensures (grows-more c.put_byte.ensures c.put_quantity.ensures))
