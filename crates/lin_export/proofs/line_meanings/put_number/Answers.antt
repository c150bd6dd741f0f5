use Rattle.std.proofs.Common.{sym, arith}
use Rattle.std.specs.Fmt.{decimal}
use Rattle.lin_text.proofs.Growing.{same-growth}
use Rattle.lin_export.proofs.PlainTexts.{decimal-plain, seen-plain}
use Rattle.lin_export.proofs.line_meanings.put_number.Goals as goal

pub returns : goal.returns
returns g c = same-growth (sym (seen-plain (decimal c.args.number) (decimal-plain c.args.number (omega arith)))) c.put_number.ensures
