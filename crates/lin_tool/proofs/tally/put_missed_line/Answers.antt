use Rattle.lin_text.proofs.Growing.{grows-more}
use Rattle.lin_tool.proofs.tally.put_missed_line.Goals as goal

pub returns : goal.returns
returns g c = grows-more c.put_text.ensures (grows-more c.put_counted.ensures c.put_counted-2.ensures)
