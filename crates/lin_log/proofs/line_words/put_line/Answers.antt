use Rattle.lin_log.proofs.Ends.{grows-ended}
use Rattle.lin_text.proofs.Growing.{grows-more}
use Rattle.lin_log.proofs.line_words.put_line.Goals as goal

pub returns : goal.returns
returns g c = grows-more c.put.ensures (grows-ended _ c.put_words.ensures c.put_byte.ensures)
