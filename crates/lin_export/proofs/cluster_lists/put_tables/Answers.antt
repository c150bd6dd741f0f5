use Rattle.std.proofs.Common.{arith}
use Rattle.lin_export.specs.Listing.{table_line}
use Rattle.lin_text.proofs.Growing.{grows-nothing}
use Rattle.lin_export.proofs.NumberedLines.{lines-next}
use Rattle.lin_export.proofs.cluster_lists.put_tables.Goals as goal

pub loop-table-init : goal.loop-table-init
loop-table-init g c = grows-nothing c.args.out.now

pub loop-table-preserved : goal.loop-table-preserved
loop-table-preserved g c = lines-next table_line c.args.cluster.now.tables c.loop-table.table _ (omega arith) c.loop-table.invariant c.put_table.ensures
