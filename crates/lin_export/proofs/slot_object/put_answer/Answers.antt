use Rattle.lin_export.proofs.Objects.{grows-two}
use Rattle.lin_export.proofs.slot_object.put_answer.Goals as goal

pub returns : goal.returns
returns g c = grows-two (rw c.node_name.ensures at c.put_first.ensures) (rw c.as_slice.ensures.items at c.put_member.ensures) c.put_byte.ensures
