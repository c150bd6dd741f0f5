use Rattle.lin_text.proofs.Growing.{grows-more}
use Rattle.lin_tool.proofs.placing.put_bad_line.Goals as goal

pub returns : goal.returns
returns g c = grows-more c.put_placed.ensures (grows-more c.put_text.ensures (grows-more c.put_reason.ensures c.put_byte.ensures))
