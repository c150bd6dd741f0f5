-- The meanings of values in objects: texts, and quantities.
use Rattle.std.specs.Prelude.{Bool, true, false, ℕ, List, [], ◌∷◌, codes}
use Rattle.lin_values.specs.Meant.{Meant, Physical}
use Rattle.lin_values.specs.Shown.{decimal_shown, shown}
use Rattle.lin_values.specs.Value.{decimal_of}
use Rattle.lin_export.specs.Json.{escaped_bytes, json_array, null, quoted_text, text_value}
use Rattle.lin_export.specs.declared.slot_meanings.Column.{Column}
use Rattle.lin_export.specs.declared.slot_meanings.Column.TheVariants.{Texts, Quantities}

abbrev pub meaning_text : Meant → List ℕ
meaning_text m = quoted_text (escaped_bytes (shown m))

-- the physical value of a value in a range, exactly, and its unit, null without one; null of other values
abbrev pub quantity : Meant → List ℕ
quantity (Physical units unit) = json_array (decimal_shown (decimal_of units) ∷ text_value unit ∷ [])
quantity m = null

abbrev pub is_quantity : Meant → Bool
is_quantity (Physical units unit) = true
is_quantity m = false

-- ---- the two members of a slot's object that have the meanings of its signals' values
abbrev pub column_key : Column → List ℕ
column_key Texts = codes "physical"
column_key Quantities = codes "quantities"

-- whether it has a value with this meaning
abbrev pub has_meaning : Column → Meant → Bool
has_meaning Texts m = true
has_meaning Quantities m = is_quantity m

abbrev pub column_value : Column → Meant → List ℕ
column_value Texts m = meaning_text m
column_value Quantities m = quantity m
