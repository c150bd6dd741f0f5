use Rattle.lin_text.proofs.Growing.{grows-more}
use Rattle.lin_export.proofs.variables.put_first_values.Goals as goal

pub returns : goal.returns
returns g c =
    grows-more c.put.ensures
    (grows-more c.put-2.ensures
    (grows-more c.put_unknowns.ensures
    (grows-more c.put_number.ensures
    (grows-more c.put_heard_values.ensures (grows-more c.put_written_values.ensures (grows-more c.put_waiting_values.ensures (grows-more c.put_first_decimals.ensures c.put-3.ensures)))))))
