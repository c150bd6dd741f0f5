use Rattle.lin_text.proofs.Growing.{grows-nothing}
use Rattle.lin_export.specs.ListedSignals.{signal_lines}
use Rattle.lin_export.proofs.ListedLines.{grows-number}
use Rattle.lin_export.proofs.cluster_lists.signal_lines.put_signals.Goals as goal

pub loop-signal-init : goal.loop-signal-init
loop-signal-init g c = grows-nothing c.args.out.now

pub loop-signal-preserved : goal.loop-signal-preserved
loop-signal-preserved g c = grows-number (signal_lines c.args.cluster.now c.args.coded.now) c.loop-signal.signal c.loop-signal.invariant c.put_signal.ensures
