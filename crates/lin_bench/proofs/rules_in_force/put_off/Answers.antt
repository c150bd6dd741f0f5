use Rattle.lin_text.proofs.Growing.{grows-more}
use Rattle.lin_bench.proofs.rules_in_force.put_off.Goals as goal

pub returns : goal.returns
returns g c = grows-more c.put_text.ensures (grows-more c.put_node.ensures c.put_text-2.ensures)
