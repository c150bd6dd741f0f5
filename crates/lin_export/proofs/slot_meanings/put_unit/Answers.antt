use Rattle.std.proofs.Common.{◌≡◌, ◌==◌, ◌∷◌, [], ℕ, List, length, sym, ◌∙◌, refl}
use Rattle.std.specs.Prelude.{false}
use Rattle.lin_text.proofs.Growing.{grows-more, same-growth}
use Rattle.lin_values.specs.Shown.{unit_shown}
use Rattle.lin_export.specs.Json.{escaped_bytes}
use Rattle.lin_export.proofs.slot_meanings.put_unit.Goals as goal

unit-escaped : (unit : List ℕ) → (length unit == 0) ≡ false → 32 ∷ escaped_bytes unit ≡ escaped_bytes (unit_shown unit)
unit-escaped [] h = cc
unit-escaped (b ∷ bs) h = refl

pub returns-then-not-is_empty : goal.returns-then-not-is_empty
returns-then-not-is_empty g c = same-growth (unit-escaped c.args.unit.now (sym c.is_empty.ensures ∙ c.if-not-is_empty.true)) (grows-more c.put_byte.ensures c.put_escaped.ensures)
