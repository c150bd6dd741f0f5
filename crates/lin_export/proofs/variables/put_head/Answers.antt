use Rattle.lin_text.proofs.Growing.{grows-more}
use Rattle.lin_export.proofs.variables.put_head.Goals as goal

pub returns : goal.returns
returns g c = grows-more c.put_declarations.ensures c.put_first_values.ensures
