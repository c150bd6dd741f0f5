use Rattle.std.proofs.Common.{codes}
use Rattle.lin_export.proofs.Objects.{grows-member}
use Rattle.lin_export.proofs.slot_object.put_value_member.Goals as goal

pub returns : goal.returns
returns g c = grows-member (codes "value") c.put_key.ensures c.put_value.ensures
