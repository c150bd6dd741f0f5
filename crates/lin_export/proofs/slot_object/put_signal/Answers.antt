use Rattle.lin_text.proofs.Growing.{grows-more}
use Rattle.lin_export.proofs.slot_object.put_signal.Goals as goal

pub returns : goal.returns
returns g c = grows-more c.put_quoted.ensures (grows-more c.put_byte.ensures c.put_value.ensures)
