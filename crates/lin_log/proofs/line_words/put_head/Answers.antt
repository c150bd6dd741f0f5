use Rattle.lin_text.proofs.Growing.{grows-more}
use Rattle.lin_log.proofs.line_words.put_head.Goals as goal

pub returns : goal.returns
returns g c = grows-more c.put.ensures c.put_words.ensures
