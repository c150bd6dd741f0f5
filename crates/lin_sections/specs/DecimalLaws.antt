-- What holds of decimals and their texts.
use Rattle.std.specs.Prelude.{◌≡◌, Some}
use Rattle.lin_values.specs.Read.{signed_number}
use Rattle.lin_values.specs.Shown.{decimal_shown}
use Rattle.lin_values.specs.Value.{scaled_value, IsReadable}
use Rattle.lin_values.specs.declared.decimals.Decimal.{Decimal}

-- the text of a decimal is read back as it
abbrev pub ShownIsRead : Type 0
ShownIsRead = (d : Decimal) → IsReadable d → signed_number (decimal_shown d) ≡ Some (scaled_value d)
