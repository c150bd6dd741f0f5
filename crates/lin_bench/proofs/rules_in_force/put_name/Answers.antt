use Rattle.lin_text.proofs.Growing.{grows-more}
use Rattle.lin_bench.proofs.rules_in_force.put_name.Goals as goal

pub returns-in-Some : goal.returns-in-Some
returns-in-Some g c = rw c.in-Some.is (grows-more c.put_text.ensures (rw c.as_slice.ensures at c.put.ensures))
