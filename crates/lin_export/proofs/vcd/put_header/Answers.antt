use Rattle.lin_export.proofs.vcd.put_header.Goals as goal

pub returns-in-Some : goal.returns-in-Some
returns-in-Some g c = rw c.in-Some.is (rw c.from.ensures at c.put_number.ensures)
