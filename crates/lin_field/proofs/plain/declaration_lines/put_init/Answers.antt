use Rattle.lin_text.proofs.Growing.{grows-more}
use Rattle.lin_field.proofs.plain.declaration_lines.put_init.Goals as goal

pub returns-in-Array : goal.returns-in-Array
returns-in-Array g c =
    rw c.in-Array.is (grows-more c.put_text.ensures (grows-more (rw c.as_slice.ensures.value at c.put_numbers.ensures) c.put_text-in-Array.ensures))
