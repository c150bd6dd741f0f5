use Rattle.lin_text.proofs.Growing.{grows-nothing}
use Rattle.lin_export.specs.ListedSlots.{table_lines}
use Rattle.lin_export.proofs.ListedLines.{grows-number}
use Rattle.lin_export.proofs.cluster_lists.slot_times.put_slots.Goals as goal

pub loop-table-init : goal.loop-table-init
loop-table-init g c = grows-nothing c.args.out.now

pub loop-table-preserved : goal.loop-table-preserved
loop-table-preserved g c = grows-number (table_lines c.args.cluster.now) c.loop-table.table c.loop-table.invariant c.put_table.ensures
