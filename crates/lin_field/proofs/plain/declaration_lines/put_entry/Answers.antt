use Rattle.lin_text.proofs.Growing.{grows-more}
use Rattle.lin_field.proofs.plain.declaration_lines.put_entry.Goals as goal

pub returns : goal.returns
returns g c =
    grows-more (rw c.as_slice.ensures at c.put_between.ensures) (grows-more c.put_group.ensures (grows-more c.put_text.ensures c.put_thousandths.ensures))
