use Rattle.std.proofs.Common.{◌∙◌}
use Rattle.lin_export.proofs.jsonl.put_lost.Goals as goal

pub returns : goal.returns
returns g c = rw (c.node_name.ensures, c.from.ensures, c.as_bytes.ensures.value ∙ c.word.ensures) at c.put_object_line.ensures
