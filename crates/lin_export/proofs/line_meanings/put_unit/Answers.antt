use Rattle.std.proofs.Common.{◌≡◌, ◌==◌, ◌∷◌, [], ℕ, List, length, sym, ◌∙◌, refl}
use Rattle.std.specs.Prelude.{false}
use Rattle.lin_log.specs.CallerTexts.{seen_text}
use Rattle.lin_text.proofs.Growing.{grows-more, same-growth}
use Rattle.lin_values.specs.Shown.{unit_shown}
use Rattle.lin_export.proofs.line_meanings.put_unit.Goals as goal

unit-seen : (unit : List ℕ) → (length unit == 0) ≡ false → 32 ∷ seen_text unit ≡ seen_text (unit_shown unit)
unit-seen [] h = cc
unit-seen (b ∷ bs) h = refl

pub returns-then-not-is_empty : goal.returns-then-not-is_empty
returns-then-not-is_empty g c = same-growth (unit-seen c.args.unit.now (sym c.is_empty.ensures ∙ c.if-not-is_empty.true)) (grows-more c.put_byte.ensures c.put_seen.ensures)
