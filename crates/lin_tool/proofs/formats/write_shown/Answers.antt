use Rattle.lin_tool.proofs.Shows.{shows-dump}
use Rattle.lin_tool.proofs.formats.write_shown.Goals as goal

pub returns-in-Vcd-clause-text : goal.returns-in-Vcd-clause-text
returns-in-Vcd-clause-text g c =
    rw c.in-Vcd.is (shows-dump _ _ _ _ _ _ _ _ c.cluster-cluster.ensures c.log-log.ensures.entries c.write_vcd.ensures)

pub returns-in-Html-clause-text : goal.returns-in-Html-clause-text
returns-in-Html-clause-text g c = rw c.in-Html.is c.write_page.ensures
