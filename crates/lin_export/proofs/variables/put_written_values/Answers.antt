use Rattle.std.proofs.Common.{sym}
use Rattle.lin_text.proofs.Growing.{grows-more, same-growth}
use Rattle.lin_export.specs.Vcd.{first_written}
use Rattle.lin_export.proofs.Rows.{numbers-more}
use Rattle.lin_export.proofs.variables.put_written_values.Goals as goal

pub loop-signal-preserved : goal.loop-signal-preserved
loop-signal-preserved g c = same-growth (sym (numbers-more (first_written c.args.cluster.now) c.loop-signal.signal)) (grows-more c.loop-signal.invariant (rw c.initial.ensures at c.put_written.ensures))
