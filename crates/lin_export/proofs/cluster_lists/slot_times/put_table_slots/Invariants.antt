use Rattle.std.proofs.Common.{flat_map}
use Rattle.lin_frame.specs.Words.{numbers}
use Rattle.lin_text.specs.Written.{Grows}
use Rattle.lin_export.specs.ListedSlots.{slot_line}
use Rattle.lin_export.proofs.cluster_lists.slot_times.put_table_slots.Given as goal

abbrev pub invariant-loop-entry : goal.invariant-loop-entry
invariant-loop-entry g l = Grows g.W.Write.contents l.initial.out l.out (flat_map (slot_line l.fn.cluster l.fn.table) (numbers l.entry))
