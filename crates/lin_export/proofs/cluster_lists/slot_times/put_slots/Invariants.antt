use Rattle.std.proofs.Common.{flat_map}
use Rattle.lin_frame.specs.Words.{numbers}
use Rattle.lin_text.specs.Written.{Grows}
use Rattle.lin_export.specs.ListedSlots.{table_lines}
use Rattle.lin_export.proofs.cluster_lists.slot_times.put_slots.Given as goal

abbrev pub invariant-loop-table : goal.invariant-loop-table
invariant-loop-table g l = Grows g.W.Write.contents l.initial.out l.out (flat_map (table_lines l.fn.cluster) (numbers l.table))
