use Rattle.std.proofs.Common.{sym}
use Rattle.lin_text.proofs.Growing.{grows-more, same-growth}
use Rattle.lin_export.specs.Vcd.{waiting_variable}
use Rattle.lin_export.proofs.Rows.{numbers-more}
use Rattle.lin_export.proofs.variables.put_waiting_variables.Goals as goal

pub loop-host-preserved : goal.loop-host-preserved
loop-host-preserved g c = same-growth (sym (numbers-more (waiting_variable c.args.cluster.now) c.loop-host.host)) (grows-more c.loop-host.invariant c.put_waiting_variable.ensures)
