use Rattle.std.proofs.Common.{sym, arith}
use Rattle.lin_text.proofs.Growing.{grows-more, same-growth}
use Rattle.lin_export.specs.Cells.{cell_text}
use Rattle.lin_export.specs.Csv.{marked_cell}
use Rattle.lin_log.proofs.Ends.{mapped-more}
use Rattle.lin_export.proofs.csv.put_cells.Goals as goal

pub loop-cell-preserved : goal.loop-cell-preserved
loop-cell-preserved g c =
    same-growth (sym (mapped-more (marked_cell c.args.mark.now) cell_text c.args.cells.now c.loop-cell.cell-index _ (omega arith))) (grows-more c.loop-cell.invariant c.put_next.ensures)
