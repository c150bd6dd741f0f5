use Rattle.lin_text.proofs.Growing.{grows-more}
use Rattle.lin_text.proofs.buffered.TextWriter.put_over.Goals as goal

pub returns : goal.returns
returns g c = grows-more c.write_waiting.ensures.text c.put_first.ensures
