use Rattle.lin_text.proofs.Growing.{grows-more}
use Rattle.lin_export.proofs.changes.put_real.Goals as goal

pub returns : goal.returns
returns g c = grows-more c.put_byte.ensures (grows-more c.put_real_value.ensures (grows-more c.put_byte-2.ensures (grows-more c.put_code.ensures c.put_byte-3.ensures)))
