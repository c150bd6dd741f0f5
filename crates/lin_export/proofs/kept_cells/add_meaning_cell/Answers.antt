use Rattle.std.proofs.Common.{[], ap}
use Rattle.std.specs.Prelude.{Option}
use Rattle.std.specs.Option.{option_map_or}
use Rattle.lin_values.specs.Meant.{Meant}
use Rattle.lin_values.specs.Shown.{plain_shown}
use Rattle.lin_export.specs.Csv.{text_cell}
use Rattle.lin_export.proofs.ShortAdded.{same-adds}
use Rattle.lin_export.proofs.kept_cells.add_meaning_cell.Goals as goal

pub returns-in-Some : goal.returns-in-Some
returns-in-Some c = same-adds (ap (λ (o : Option Meant). option_map_or (λ (m : Meant). text_cell (plain_shown m)) o []) c.in-Some.ensures) c.add_meaning.ensures
