use Rattle.lin_text.proofs.Growing.{grows-more}
use Rattle.lin_field.proofs.plain.declaration_lines.put_group.Goals as goal

pub returns-then-entry : goal.returns-then-entry
returns-then-entry g c =
    rw c.if-entry.true (grows-more (rw (c.bytes_of.ensures, c.up_to.ensures, c.behind.ensures) at c.put.ensures) c.put_text.ensures)
