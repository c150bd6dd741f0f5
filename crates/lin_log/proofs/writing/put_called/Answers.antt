use Rattle.lin_text.proofs.Growing.{grows-more}
use Rattle.lin_log.proofs.writing.put_called.Goals as goal

pub returns-in-Some : goal.returns-in-Some
returns-in-Some g c = rw c.in-Some.is (grows-more c.put_byte.ensures c.put_seen.ensures)

pub returns-in-None : goal.returns-in-None
returns-in-None g c = rw c.in-None.is c.put_numbered.ensures
