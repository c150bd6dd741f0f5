-- What the cells of the code show.
use Rattle.std.specs.Prelude.{ℕ, List, [], ◌∷◌}
use Rattle.std.specs.Fmt.{decimal}
use Rattle.std.specs.Option.{option_map_or}
use Rattle.lin_export.specs.Csv.{hex_cell}
use Rattle.lin_export.specs.declared.csv.Cell.{Cell}
use Rattle.lin_export.specs.declared.csv.Cell.TheVariants.{Text, Number, Byte, Hex}

abbrev pub cell_text : Cell → List ℕ
cell_text (Text text) = text.now
cell_text (Number n) = decimal n
cell_text (Byte byte) = option_map_or (λ b. hex_cell (b ∷ [])) byte []
cell_text (Hex bytes) = hex_cell bytes.now
