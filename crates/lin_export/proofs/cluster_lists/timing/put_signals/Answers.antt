use Rattle.std.proofs.Common.{arith}
use Rattle.lin_text.proofs.Growing.{grows-nothing}
use Rattle.lin_export.specs.ListedTiming.{signal_timing_text}
use Rattle.lin_export.proofs.NumberedLines.{lines-next}
use Rattle.lin_export.proofs.cluster_lists.timing.put_signals.Goals as goal

pub loop-signal-init : goal.loop-signal-init
loop-signal-init g c = grows-nothing c.args.out.now

pub loop-signal-preserved : goal.loop-signal-preserved
loop-signal-preserved g c = lines-next (signal_timing_text c.args.cluster.now c.args.table) c.args.latencies.now c.loop-signal.signal _ (omega arith) c.loop-signal.invariant c.put_signal.ensures
