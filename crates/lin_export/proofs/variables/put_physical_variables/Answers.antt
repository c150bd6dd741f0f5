use Rattle.std.proofs.Common.{sym}
use Rattle.lin_text.proofs.Growing.{grows-more, same-growth}
use Rattle.lin_export.specs.Vcd.{physical_variable}
use Rattle.lin_export.proofs.Rows.{numbers-more}
use Rattle.lin_export.proofs.variables.put_physical_variables.Goals as goal

pub loop-signal-preserved : goal.loop-signal-preserved
loop-signal-preserved g c =
    same-growth (sym (numbers-more (physical_variable c.args.cluster.now c.args.coded.now) c.loop-signal.signal)) (grows-more c.loop-signal.invariant c.put_physical_variable.ensures)
