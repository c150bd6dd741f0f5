use Rattle.lin_text.proofs.Growing.{grows-more}
use Rattle.lin_log.proofs.writing.put_lone_node.Goals as goal

pub returns : goal.returns
returns g c = grows-more c.put_text.ensures c.put_node.ensures
