use Rattle.lin_text.proofs.Growing.{grows-more}
use Rattle.lin_tool.proofs.campaign.text.put_line.Goals as goal

pub returns : goal.returns
returns g c = grows-more c.put_name.ensures (grows-more c.put_text.ensures (grows-more c.put_verdict.ensures c.put_byte.ensures))
