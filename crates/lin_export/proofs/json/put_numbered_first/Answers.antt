use Rattle.lin_text.proofs.Growing.{grows-more}
use Rattle.lin_export.proofs.json.put_numbered_first.Goals as goal

pub returns : goal.returns
returns g c = grows-more c.put.ensures c.put_number.ensures
