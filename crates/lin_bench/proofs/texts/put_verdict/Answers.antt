use Rattle.lin_text.proofs.Growing.{grows-more}
use Rattle.lin_bench.proofs.texts.put_verdict.Goals as goal

pub returns : goal.returns
returns g c = grows-more c.put_text.ensures (grows-more c.put_expected.ensures (grows-more c.put_byte.ensures (grows-more c.put_got.ensures c.put_byte-2.ensures)))
