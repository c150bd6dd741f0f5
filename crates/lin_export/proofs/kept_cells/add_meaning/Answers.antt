use Rattle.std.proofs.Common.{sym}
use Rattle.lin_values.specs.Shown.{decimal_shown}
use Rattle.lin_export.proofs.PlainTexts.{cell-plain, shown-plain}
use Rattle.lin_export.proofs.ShortAdded.{same-adds}
use Rattle.lin_export.proofs.kept_cells.add_meaning.Goals as goal

pub returns-in-Physical : goal.returns-in-Physical
returns-in-Physical c =
    let d = c.decimal.result in
    let text = same-adds (sym (cell-plain (decimal_shown d) (shown-plain d c.decimal.ensures.limits))) c.put_decimal.ensures in
    rw c.in-Physical.is (rw c.decimal.ensures.same at text)
