use Rattle.lin_text.proofs.Growing.{grows-more}
use Rattle.lin_export.proofs.csv.put_first_cells.Goals as goal

pub returns : goal.returns
returns g c = rw (c.slots.ensures, c.time.ensures) at (grows-more c.put_cell.ensures c.put_slot.ensures)
