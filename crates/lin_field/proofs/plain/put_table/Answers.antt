use Rattle.lin_text.proofs.Growing.{grows-more}
use Rattle.lin_field.proofs.plain.put_table.Goals as goal

pub returns : goal.returns
returns g c =
    grows-more (rw c.as_slice.ensures at c.put_between.ensures)
    (grows-more (rw c.as_slice-2.ensures at c.put_entries.ensures) c.put_text.ensures)
