use Rattle.lin_text.proofs.Growing.{grows-more}
use Rattle.lin_export.proofs.variables.put_declarations.Goals as goal

pub returns : goal.returns
returns g c =
    grows-more c.put.ensures
    (grows-more (grows-more c.put-2.ensures (grows-more c.put_bus_variables.ensures c.put-3.ensures))
    (grows-more (grows-more c.put-4.ensures (grows-more c.put_heard_variables.ensures c.put-5.ensures))
    (grows-more (grows-more c.put-6.ensures (grows-more c.put_written_variables.ensures c.put-7.ensures))
    (grows-more (grows-more c.put-8.ensures (grows-more c.put_waiting_variables.ensures c.put-9.ensures))
    (grows-more c.put_physical_scope.ensures c.put-10.ensures)))))
