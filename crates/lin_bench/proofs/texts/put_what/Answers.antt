use Rattle.lin_text.proofs.Growing.{grows-more}
use Rattle.lin_bench.proofs.texts.put_what.Goals as goal

pub returns-in-NotDue : goal.returns-in-NotDue
returns-in-NotDue g c = rw c.in-NotDue.is (grows-more c.put_text.ensures c.put_node.ensures)

pub returns-in-NothingExpected : goal.returns-in-NothingExpected
returns-in-NothingExpected g c = rw c.in-NothingExpected.is c.put_text-in-NothingExpected.ensures
