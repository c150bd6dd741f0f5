use Rattle.lin_text.proofs.Growing.{grows-more}
use Rattle.lin_export.proofs.vcd.put_heard_changes.Goals as goal

pub returns-in-Some : goal.returns-in-Some
returns-in-Some g c = rw c.in-Some.is (grows-more c.put_frame.ensures c.put_frame_decimals.ensures)
