use Rattle.lin_text.proofs.Growing.{grows-more}
use Rattle.lin_bench.proofs.texts.put_got.Goals as goal

pub returns : goal.returns
returns g c = grows-more c.put_byte.ensures c.put_is.ensures
