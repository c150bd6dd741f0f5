use Rattle.std.proofs.Common.{sym}
use Rattle.lin_export.proofs.ColumnNames.{plain-cell}
use Rattle.lin_export.proofs.ShortAdded.{same-adds}
use Rattle.lin_export.specs.Csv.{text_cell}
use Rattle.lin_export.proofs.kept_cells.add_text.Goals as goal

pub returns-then-needs_quotes : goal.returns-then-needs_quotes
returns-then-needs_quotes c = c.give_up.ensures (text_cell c.args.cell.now)

pub returns-else-needs_quotes : goal.returns-else-needs_quotes
returns-else-needs_quotes c = same-adds (plain-cell c.args.cell.now (sym c.if-needs_quotes.ensures)) c.put.ensures
