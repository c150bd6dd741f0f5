use Rattle.lin_text.proofs.Growing.{grows-more}
use Rattle.lin_log.proofs.line_words.put_range.Goals as goal

pub returns : goal.returns
returns g c = grows-more c.put_number.ensures (grows-more c.put_text.ensures c.put_number-2.ensures)
