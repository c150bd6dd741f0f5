use Rattle.lin_text.proofs.Growing.{grows-more}
use Rattle.lin_export.proofs.cluster_lists.signal_lines.put_signal.Goals as goal

pub returns : goal.returns
returns g c = grows-more c.put_coding.ensures (grows-more c.put_items.ensures c.put_initial.ensures)
