use Rattle.lin_text.proofs.Growing.{grows-more}
use Rattle.lin_export.proofs.check_object.problems.put_line_place.Goals as goal

pub returns-in-Some : goal.returns-in-Some
returns-in-Some g c = rw c.in-Some.is (grows-more c.put_numbered.ensures c.put_numbered-in-Some.ensures)
