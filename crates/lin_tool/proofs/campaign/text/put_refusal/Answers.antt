use Rattle.lin_text.proofs.Growing.{grows-more}
use Rattle.lin_tool.proofs.campaign.text.put_refusal.Goals as goal

pub returns : goal.returns
returns g c = grows-more c.put_number.ensures (grows-more c.put_byte.ensures (rw c.word.ensures at c.put_text.ensures))
