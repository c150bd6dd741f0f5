use Rattle.lin_text.proofs.Growing.{grows-more}
use Rattle.lin_export.proofs.json.put_object_line.Goals as goal

pub returns : goal.returns
returns g c = grows-more c.put_type.ensures (grows-more c.put_members.ensures c.put.ensures)
