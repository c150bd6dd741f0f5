use Rattle.lin_text.proofs.Growing.{grows-more}
use Rattle.lin_bench.proofs.rules_in_force.put_on.Goals as goal

pub returns : goal.returns
returns g c =
    grows-more c.put_text.ensures
    (grows-more (rw c.condition_line.ensures at c.put_word_list.ensures)
    (grows-more c.put_text-2.ensures (grows-more c.put_repeating_port.ensures c.put_step.ensures)))
