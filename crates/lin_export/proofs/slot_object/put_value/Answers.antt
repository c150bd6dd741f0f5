use Rattle.lin_text.proofs.Growing.{grows-more}
use Rattle.lin_export.proofs.slot_object.put_value.Goals as goal

pub returns-in-Bytes : goal.returns-in-Bytes
returns-in-Bytes g c =
    rw c.in-Bytes.is (grows-more c.put_byte.ensures (grows-more (rw c.in-Bytes.is at c.put_shown.ensures) c.put_byte-in-Bytes.ensures))
