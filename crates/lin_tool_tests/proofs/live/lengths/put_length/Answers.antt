use Rattle.lin_text.proofs.Growing.{grows-more}
use Rattle.lin_tool_tests.proofs.live.lengths.put_length.Goals as goal

pub returns-in-Some : goal.returns-in-Some
returns-in-Some g c = rw c.in-Some.is (grows-more (rw c.min.ensures at c.put.ensures) c.put_number.ensures)
