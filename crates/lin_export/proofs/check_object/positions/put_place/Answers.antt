use Rattle.std.proofs.Common.{codes}
use Rattle.lin_export.proofs.Objects.{grows-member}
use Rattle.lin_export.proofs.check_object.positions.put_place.Goals as goal

pub returns-in-Some : goal.returns-in-Some
returns-in-Some g c = rw c.in-Some.is (grows-member (codes "place") c.put_key.ensures c.put_line_and_column.ensures)

pub returns-in-None : goal.returns-in-None
returns-in-None g c = rw c.in-None.is (grows-member (codes "place") c.put_key.ensures c.put.ensures)
