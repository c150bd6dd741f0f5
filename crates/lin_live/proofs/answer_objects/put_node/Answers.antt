use Rattle.lin_export.proofs.Objects.{grows-two}
use Rattle.lin_live.proofs.answer_objects.put_node.Goals as goal

pub returns : goal.returns
returns g c = grows-two (rw c.node_name.ensures at c.put_first.ensures) (rw c.nad_member.ensures at c.put_member.ensures) c.put_byte.ensures
