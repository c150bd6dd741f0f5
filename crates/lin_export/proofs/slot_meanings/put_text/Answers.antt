use Rattle.lin_text.proofs.Growing.{grows-more}
use Rattle.lin_export.proofs.slot_meanings.put_text.Goals as goal

pub returns : goal.returns
returns g c = grows-more c.put_byte.ensures (grows-more c.put_escaped_meaning.ensures c.put_byte-2.ensures)
