use Rattle.std.proofs.Common.{append_assoc}
use Rattle.lin_text.proofs.Growing.{grows-more}
use Rattle.lin_log.proofs.writing.put_fate.Goals as goal

pub returns : goal.returns
returns g c = rw append_assoc at (grows-more c.put_lone_node.ensures (rw c.from.ensures at c.put_called.ensures))
