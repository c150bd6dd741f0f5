use Rattle.std.proofs.Common.{codes}
use Rattle.lin_export.proofs.Objects.{grows-list}
use Rattle.lin_export.proofs.check_object.encodings.put_encodings.Goals as goal

pub returns-in-Some : goal.returns-in-Some
returns-in-Some g c = rw c.in-Some.is (grows-list (codes "encodings") _ c.put_list.ensures c.put_all_encodings.ensures c.put_byte.ensures)

pub returns-in-None : goal.returns-in-None
returns-in-None g c = rw c.in-None.is c.put_member.ensures
