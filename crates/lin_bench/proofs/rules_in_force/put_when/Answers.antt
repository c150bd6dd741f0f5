use Rattle.lin_text.proofs.Growing.{grows-more}
use Rattle.lin_bench.proofs.rules_in_force.put_when.Goals as goal

pub returns : goal.returns
returns g c =
    grows-more c.put_text.ensures
    (grows-more c.put_node.ensures
    (grows-more c.put_name.ensures
    (grows-more (grows-more c.put_byte.ensures c.put_pattern.ensures) (grows-more (rw c.as_slice.ensures at c.put_answers.ensures) c.put_name-2.ensures))))
