use Rattle.lin_text.proofs.Growing.{grows-more}
use Rattle.lin_export.proofs.variables.put_waiting_variable.Goals as goal

pub returns : goal.returns
returns g c =
    grows-more (rw c.waiting_number.ensures.number at c.put_opening.ensures)
    (grows-more (grows-more c.put.ensures (rw c.node_name.ensures at c.put-2.ensures)) c.put-3.ensures)
