use Rattle.lin_text.proofs.Growing.{grows-more}
use Rattle.lin_export.proofs.vcd.put_slot.Goals as goal

pub returns : goal.returns
returns g c =
    grows-more c.put_number.ensures
    (grows-more (rw (c.from.ensures, c.table.ensures) at c.put_number-2.ensures)
    (grows-more (rw (c.from-2.ensures, c.entry.ensures) at c.put_number-3.ensures)
    (grows-more (rw c.header.ensures at c.put_header.ensures) (rw (c.from-3.ensures, c.number.ensures, c.kind.ensures, c.look.ensures) at c.put_number-4.ensures))))
