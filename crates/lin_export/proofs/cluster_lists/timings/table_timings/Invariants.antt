use Rattle.std.proofs.Common.{◌≡◌, length}
use Rattle.lin_export.specs.Timings.{AreTimingsFrom}
use Rattle.lin_export.proofs.cluster_lists.timings.table_timings.Given as goal

abbrev pub invariant-loop-table : goal.invariant-loop-table
invariant-loop-table l = (length l.all.items ≡ l.table) × AreTimingsFrom l.cluster l.bytes 0 l.all.items
