use Rattle.lin_text.proofs.Growing.{grows-more}
use Rattle.lin_export.proofs.changes.put_unknown.Goals as goal

pub returns : goal.returns
returns g c = grows-more c.put.ensures (grows-more c.put_code.ensures c.put_byte.ensures)
