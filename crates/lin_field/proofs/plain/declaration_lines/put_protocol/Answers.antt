use Rattle.lin_field.proofs.plain.declaration_lines.put_protocol.Goals as goal

pub returns-in-Some : goal.returns-in-Some
returns-in-Some g c = rw c.in-Some.is (rw c.as_slice.ensures at c.put_between.ensures)
