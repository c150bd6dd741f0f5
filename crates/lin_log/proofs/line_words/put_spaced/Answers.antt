use Rattle.lin_text.proofs.Growing.{grows-more}
use Rattle.lin_log.proofs.line_words.put_spaced.Goals as goal

pub returns : goal.returns
returns g c = grows-more c.put_byte.ensures c.put_shown.ensures
