use Rattle.lin_text.proofs.Growing.{grows-more}
use Rattle.lin_tool.proofs.placing.put_unread.Goals as goal

pub returns : goal.returns
returns g c = grows-more c.put.ensures (grows-more c.put_text.ensures (grows-more c.put_reason.ensures c.put_byte.ensures))
