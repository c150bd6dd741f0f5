use Rattle.lin_text.proofs.Growing.{grows-more}
use Rattle.lin_tool.proofs.page.summary.put_count.Goals as goal

pub returns : goal.returns
returns g c = grows-more c.put_text.ensures (grows-more c.put_text-2.ensures c.put_number.ensures)
