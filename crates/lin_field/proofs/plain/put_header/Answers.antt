use Rattle.lin_text.proofs.Growing.{grows-more}
use Rattle.lin_field.proofs.plain.put_header.Goals as goal

pub returns : goal.returns
returns g c =
    grows-more c.put_text.ensures
    (grows-more (rw c.as_slice.ensures at c.put_between.ensures)
    (grows-more (rw c.language.ensures at c.put_between-2.ensures)
    (grows-more c.put_text-2.ensures (rw c.speed.ensures at c.put_thousandths.ensures))))
