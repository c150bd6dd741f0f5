use Rattle.lin_export.proofs.Objects.{grows-member}
use Rattle.lin_export.proofs.json.put_list.Goals as goal

pub returns : goal.returns
returns g c = grows-member c.args.key.now c.put_key.ensures c.put_byte.ensures
