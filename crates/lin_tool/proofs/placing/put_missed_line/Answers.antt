use Rattle.lin_text.proofs.Growing.{grows-more}
use Rattle.lin_tool.proofs.placing.put_missed_line.Goals as goal

pub returns-in-Some : goal.returns-in-Some
returns-in-Some g c = λ log is. rw c.in-Some.is (c.put_missed.ensures log is)

pub returns-in-None : goal.returns-in-None
returns-in-None g c = λ log is. rw c.in-None.is (grows-more c.put_text.ensures (grows-more c.put_place_number.ensures c.put_judged.ensures))
