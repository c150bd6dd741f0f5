-- Cells that are kept from row to row.
use Rattle.std.specs.Prelude.{◌≡◌, ℕ, ⊤, List, length, flat_map, Option, Some, None, slice_get}
use Rattle.lin_values.specs.Coded.{CodedData}
use Rattle.lin_export.specs.Csv.{after_comma, meaning_cells}
use Rattle.lin_export.specs.ShortTexts.{HoldsText}
use Rattle.lin_export.specs.declared.kept_cells.KeptCells.{KeptCells}

-- They are those of the value that is kept.
abbrev pub AreCellsOf : CodedData → ℕ → KeptCells → Type 0
AreCellsOf k s kept = HoldsText kept.text (flat_map after_comma (meaning_cells k s kept.value))

-- for so many signals
pub record AreKept (k : CodedData) (count : ℕ) (all : List KeptCells) : Type 0 where
  pub number : length all ≡ count
  pub each : (s : ℕ) (kept : KeptCells) → slice_get all s ≡ Some kept → AreCellsOf k s kept

-- where what values mean is told
abbrev pub FitKept : Option CodedData → ℕ → List KeptCells → Type 0
FitKept None count all = ⊤
FitKept (Some k) count all = AreKept k count all
