use Rattle.std.proofs.Common.{◌≡◌, length}
use Rattle.lin_export.specs.Timings.{AreLatencies}
use Rattle.lin_export.proofs.cluster_lists.timings.latencies.Given as goal

abbrev pub invariant-loop-signal : goal.invariant-loop-signal
invariant-loop-signal l = (length l.all.items ≡ l.signal) × AreLatencies l.cluster l.table l.all.items
