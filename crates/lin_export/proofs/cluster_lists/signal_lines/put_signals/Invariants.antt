use Rattle.std.proofs.Common.{flat_map}
use Rattle.lin_frame.specs.Words.{numbers}
use Rattle.lin_text.specs.Written.{Grows}
use Rattle.lin_export.specs.ListedSignals.{signal_lines}
use Rattle.lin_export.proofs.cluster_lists.signal_lines.put_signals.Given as goal

abbrev pub invariant-loop-signal : goal.invariant-loop-signal
invariant-loop-signal g l = Grows g.W.Write.contents l.initial.out l.out (flat_map (signal_lines l.fn.cluster l.fn.coded) (numbers l.signal))
