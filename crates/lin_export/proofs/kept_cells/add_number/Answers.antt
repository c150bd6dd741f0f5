use Rattle.std.proofs.Common.{sym, arith}
use Rattle.std.specs.Fmt.{decimal}
use Rattle.lin_export.proofs.PlainTexts.{cell-plain, decimal-plain}
use Rattle.lin_export.proofs.ShortAdded.{same-adds}
use Rattle.lin_export.proofs.kept_cells.add_number.Goals as goal

pub returns : goal.returns
returns c = same-adds (sym (cell-plain (decimal c.args.number) (decimal-plain c.args.number (omega arith)))) c.put_number.ensures
