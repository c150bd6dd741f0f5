use Rattle.lin_text.proofs.Growing.{grows-more}
use Rattle.lin_tool.proofs.campaign.page.put_script_line.Goals as goal

pub returns : goal.returns
returns g c = grows-more c.put_text.ensures (grows-more (rw c.without_return.ensures at c.put_field.ensures) c.put_byte.ensures)
