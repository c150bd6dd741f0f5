use Rattle.std.proofs.Common.{◌++◌, sym, ap, ◌∙◌}
use Rattle.std.proofs.lemmas.List.{map-append}
use Rattle.lin_log.specs.CallerTexts.{seen_byte, seen_text}
use Rattle.lin_text.proofs.Growing.{grows-more, same-growth}
use Rattle.lin_values.specs.Shown.{decimal_shown, unit_shown}
use Rattle.lin_export.proofs.PlainTexts.{seen-plain, shown-plain}
use Rattle.lin_export.proofs.line_meanings.put_line_meaning.Goals as goal

pub returns-in-Physical : goal.returns-in-Physical
returns-in-Physical g c =
    let d = c.decimal.result in
    let unit = unit_shown c.in-Physical.unit.now in
    let text =
    same-growth (ap (λ l. l ++ seen_text unit) (sym (seen-plain (decimal_shown d) (shown-plain d c.decimal.ensures.limits))) ∙ sym (map-append seen_byte (decimal_shown d) unit))
    (grows-more c.put_decimal.ensures c.put_unit.ensures) in
    rw c.in-Physical.is (rw c.decimal.ensures.same at text)
