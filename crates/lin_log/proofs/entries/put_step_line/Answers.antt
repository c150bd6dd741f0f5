use Rattle.lin_log.proofs.Ends.{grows-ended}
use Rattle.lin_text.proofs.Growing.{grows-more}
use Rattle.lin_log.proofs.entries.put_step_line.Goals as goal

pub returns : goal.returns
returns g c = grows-more c.put_port.ensures (grows-ended _ c.put_step.ensures c.put_byte.ensures)
