use Rattle.std.proofs.Common.{take}
use Rattle.lin_text.specs.Written.{Grows}
use Rattle.lin_export.specs.ListedTiming.{signal_timing_text}
use Rattle.lin_export.specs.Listing.{numbered_lines}
use Rattle.lin_export.proofs.cluster_lists.timing.put_signals.Given as goal

abbrev pub invariant-loop-signal : goal.invariant-loop-signal
invariant-loop-signal g l = Grows g.W.Write.contents l.initial.out l.out (numbered_lines (signal_timing_text l.fn.cluster l.fn.table) 0 (take l.signal l.fn.latencies))
