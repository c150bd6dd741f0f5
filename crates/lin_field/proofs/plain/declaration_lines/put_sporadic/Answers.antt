use Rattle.lin_text.proofs.Growing.{grows-more}
use Rattle.lin_field.proofs.plain.declaration_lines.put_sporadic.Goals as goal

pub returns : goal.returns
returns g c =
    grows-more (rw c.as_slice.ensures at c.put_between.ensures) (grows-more (rw c.as_slice-2.ensures.value at c.put_names.ensures) c.put_text.ensures)
