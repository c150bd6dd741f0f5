use Rattle.lin_export.proofs.Objects.{grows-two}
use Rattle.lin_live.proofs.answer_objects.put_versions.Goals as goal

pub returns : goal.returns
returns g c = grows-two (rw c.as_bytes.ensures.value at c.put_first.ensures) (rw c.from.ensures at c.put_member.ensures) c.put_byte.ensures
