use Rattle.lin_text.proofs.Growing.{grows-more}
use Rattle.lin_tool.proofs.page.meanings.put_items.Goals as goal

pub returns : goal.returns
returns g c = grows-more c.put_logicals.ensures c.put_physicals.ensures
