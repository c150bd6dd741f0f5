use Rattle.lin_text.proofs.Growing.{grows-more}
use Rattle.lin_bench.proofs.rules_in_force.put_every.Goals as goal

pub returns : goal.returns
returns g c = grows-more c.put_time.ensures (grows-more c.put_repeating_port.ensures c.put_step.ensures)
