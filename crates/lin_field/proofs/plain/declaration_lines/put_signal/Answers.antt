use Rattle.lin_text.proofs.Growing.{grows-more}
use Rattle.lin_field.proofs.plain.declaration_lines.put_signal.Goals as goal

pub returns : goal.returns
returns g c =
    grows-more (rw c.as_slice.ensures at c.put_between.ensures) (grows-more c.put_number.ensures (grows-more c.put_init.ensures (grows-more c.put_text.ensures (grows-more (rw c.as_slice-2.ensures at c.put.ensures) (grows-more (rw c.as_slice-3.ensures at c.put_more_names.ensures) c.put_text-2.ensures)))))
