use Rattle.std.proofs.Common.{sym}
use Rattle.lin_text.proofs.Growing.{grows-more, same-growth}
use Rattle.lin_export.specs.Vcd.{first_waiting}
use Rattle.lin_export.proofs.Rows.{numbers-more}
use Rattle.lin_export.proofs.variables.put_waiting_values.Goals as goal

pub loop-host-preserved : goal.loop-host-preserved
loop-host-preserved g c = same-growth (sym (numbers-more (first_waiting c.args.cluster.now) c.loop-host.host)) (grows-more c.loop-host.invariant c.put_waiting.ensures)
