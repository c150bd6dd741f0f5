use Rattle.std.proofs.Common.{take}
use Rattle.lin_text.specs.Written.{Grows}
use Rattle.lin_export.specs.ListedTiming.{table_text}
use Rattle.lin_export.specs.Listing.{numbered_lines}
use Rattle.lin_export.proofs.cluster_lists.timing.put_tables.Given as goal

abbrev pub invariant-loop-table : goal.invariant-loop-table
invariant-loop-table g l = Grows g.W.Write.contents l.initial.out l.out (numbered_lines (table_text l.fn.cluster l.fn.bytes) 0 (take l.table l.fn.timings))
