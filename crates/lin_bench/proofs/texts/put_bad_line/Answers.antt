use Rattle.lin_text.proofs.Growing.{grows-more}
use Rattle.lin_bench.proofs.texts.put_bad_line.Goals as goal

pub returns : goal.returns
returns g c = grows-more c.put_bad_place.ensures (grows-more c.put_reason.ensures c.put_byte.ensures)
