use Rattle.lin_export.proofs.Objects.{grows-member}
use Rattle.lin_export.proofs.jsonl.put_count.Goals as goal

pub returns : goal.returns
returns g c = grows-member c.args.key.now c.put_key.ensures c.put_number.ensures
