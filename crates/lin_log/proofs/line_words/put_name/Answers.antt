use Rattle.std.proofs.Common.{sym}
use Rattle.std.specs.Fmt.{decimal}
use Rattle.lin_text.proofs.Growing.{same-growth}
use Rattle.lin_log.proofs.CallerTexts.{quiet-same}
use Rattle.lin_log.proofs.Quiet.{quiet-decimal}
use Rattle.lin_log.proofs.line_words.put_name.Goals as goal

pub returns-in-None : goal.returns-in-None
returns-in-None g c = rw c.in-None.is (same-growth (sym (quiet-same (decimal c.args.number) (quiet-decimal c.args.number))) c.put_number.ensures)
