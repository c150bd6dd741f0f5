use Rattle.lin_text.proofs.Growing.{grows-nothing}
use Rattle.lin_export.specs.ListedSlots.{slot_line}
use Rattle.lin_export.proofs.ListedLines.{grows-number}
use Rattle.lin_export.proofs.cluster_lists.slot_times.put_table_slots.Goals as goal

pub loop-entry-init : goal.loop-entry-init
loop-entry-init g c = grows-nothing c.args.out.now

pub loop-entry-preserved : goal.loop-entry-preserved
loop-entry-preserved g c = grows-number (slot_line c.args.cluster.now c.args.table) c.loop-entry.entry c.loop-entry.invariant c.put_slot.ensures
