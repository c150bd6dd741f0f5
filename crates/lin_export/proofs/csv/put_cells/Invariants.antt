use Rattle.std.proofs.Common.{take, flat_map, map}
use Rattle.lin_text.specs.Written.{Grows}
use Rattle.lin_export.specs.Cells.{cell_text}
use Rattle.lin_export.specs.Csv.{marked_cell}
use Rattle.lin_export.proofs.csv.put_cells.Given as goal

abbrev pub invariant-loop-cell : goal.invariant-loop-cell
invariant-loop-cell g l = Grows g.W.Write.contents l.initial.out l.out (flat_map (marked_cell l.mark) (map cell_text (take l.cell-index l.cells)))
