use Rattle.lin_text.proofs.Growing.{grows-more}
use Rattle.lin_export.proofs.csv.put_head.Goals as goal

pub returns : goal.returns
returns g c = grows-more c.put.ensures (grows-more c.put_signal_names.ensures c.put_byte.ensures)
