use Rattle.lin_text.proofs.Growing.{grows-more}
use Rattle.lin_field.proofs.plain.put_nodes.Goals as goal

pub returns : goal.returns
returns g c =
    grows-more (rw (c.as_slice-master.ensures, c.master.ensures) at c.put_between.ensures)
    (grows-more (rw c.time_base.ensures at c.put_thousandths.ensures)
    (grows-more (rw c.jitter.ensures at c.put_thousandths-2.ensures)
    (grows-more (rw c.slaves.ensures.value at c.put_names.ensures) c.put_text.ensures)))
