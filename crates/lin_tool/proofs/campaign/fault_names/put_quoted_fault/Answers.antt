use Rattle.lin_text.proofs.Growing.{grows-more}
use Rattle.lin_tool.proofs.campaign.fault_names.put_quoted_fault.Goals as goal

pub returns : goal.returns
returns g c = grows-more c.put_byte.ensures (grows-more c.put_fault.ensures c.put_byte-2.ensures)
