use Rattle.lin_text.proofs.Growing.{grows-more}
use Rattle.lin_export.proofs.check_object.problems.put_token.Goals as goal

pub returns-in-Some : goal.returns-in-Some
returns-in-Some g c = rw c.in-Some.is (grows-more c.put.ensures (rw c.as_slice.ensures at c.put-in-Some.ensures))
