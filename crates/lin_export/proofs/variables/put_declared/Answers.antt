use Rattle.lin_text.proofs.Growing.{grows-more}
use Rattle.lin_export.proofs.variables.put_declared.Goals as goal

pub returns : goal.returns
returns g c = grows-more c.put_opening.ensures (grows-more c.put.ensures c.put-2.ensures)
