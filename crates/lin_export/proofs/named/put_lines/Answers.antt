use Rattle.lin_text.proofs.Growing.{grows-more}
use Rattle.lin_export.proofs.named.put_lines.Goals as goal

pub returns : goal.returns
returns g c = grows-more c.put_event.ensures (grows-more c.put_behind.ensures c.put_told.ensures)
