use Rattle.lin_text.proofs.Growing.{grows-more}
use Rattle.lin_tool.proofs.finding_lines.put_place.Goals as goal

pub returns : goal.returns
returns g c = grows-more c.put_number.ensures c.put_numbered.ensures
