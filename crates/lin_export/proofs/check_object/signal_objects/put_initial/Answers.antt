use Rattle.std.proofs.Common.{codes}
use Rattle.lin_export.proofs.Objects.{grows-member}
use Rattle.lin_export.proofs.check_object.signal_objects.put_initial.Goals as goal

pub returns : goal.returns
returns g c = grows-member (codes "initial") c.put_key.ensures c.put_value.ensures
