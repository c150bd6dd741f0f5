use Rattle.lin_text.proofs.Growing.{grows-more}
use Rattle.lin_export.proofs.variables.put_bus_variables.Goals as goal

pub returns : goal.returns
returns g c =
    grows-more c.put_declared.ensures
    (grows-more c.put_declared-2.ensures
    (grows-more c.put_declared-3.ensures (grows-more c.put_declared-4.ensures (grows-more c.put_declared-5.ensures c.put_declared-6.ensures))))
