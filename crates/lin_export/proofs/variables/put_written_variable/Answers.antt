use Rattle.lin_text.proofs.Growing.{grows-more}
use Rattle.lin_export.proofs.variables.put_written_variable.Goals as goal

pub returns : goal.returns
returns g c =
    grows-more (rw (c.written_number.ensures.number, c.signal_size-size.ensures.size) at c.put_opening.ensures)
    (grows-more
    (grows-more (rw c.signal_name.ensures at c.put.ensures) (grows-more c.put_byte.ensures (rw (c.node_name.ensures, c.publisher.ensures) at c.put-2.ensures)))
    c.put-3.ensures)
