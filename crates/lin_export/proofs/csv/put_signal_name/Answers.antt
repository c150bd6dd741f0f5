use Rattle.lin_text.proofs.Growing.{grows-more}
use Rattle.lin_export.proofs.csv.put_signal_name.Goals as goal

pub returns-in-Some : goal.returns-in-Some
returns-in-Some g c = rw c.in-Some.is (grows-more (rw c.signal_name.ensures at c.put_next.ensures) c.put_coded_names.ensures)
