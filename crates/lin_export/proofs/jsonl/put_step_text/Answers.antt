use Rattle.lin_text.proofs.Growing.{grows-more}
use Rattle.lin_export.proofs.jsonl.put_step_text.Goals as goal

pub returns : goal.returns
returns g c = grows-more c.put_byte.ensures (grows-more (grows-more c.put_port.ensures c.put_step.ensures) c.put_byte-2.ensures)
