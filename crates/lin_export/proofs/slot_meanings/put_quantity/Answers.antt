use Rattle.lin_text.proofs.Growing.{grows-more, same-growth}
use Rattle.lin_values.specs.Shown.{decimal_shown}
use Rattle.lin_export.specs.Json.{text_value}
use Rattle.lin_export.proofs.Objects.{two-values}
use Rattle.lin_export.proofs.slot_meanings.put_quantity.Goals as goal

pub returns : goal.returns
returns g c =
    let text =
    same-growth (two-values (decimal_shown c.decimal.result) (text_value c.in-Physical.unit.now))
    (grows-more c.put_byte.ensures (grows-more c.put_decimal.ensures (grows-more c.put_byte-2.ensures (grows-more c.put_text_value.ensures c.put_byte-3.ensures)))) in
    rw c.in-Physical.is (rw c.decimal.ensures.same at text)
