use Rattle.lin_text.proofs.Growing.{grows-more}
use Rattle.lin_field.proofs.plain.declaration_lines.put_placed.Goals as goal

pub returns : goal.returns
returns g c = grows-more (rw c.as_slice.ensures at c.put.ensures) (grows-more c.put_text.ensures c.put_number.ensures)
