use Rattle.lin_text.proofs.Growing.{grows-more}
use Rattle.lin_bench.proofs.rules_in_force.put_answer.Goals as goal

pub returns : goal.returns
returns g c = grows-more (rw c.as_slice.ensures at c.put_parts.ensures) c.put_wait.ensures
