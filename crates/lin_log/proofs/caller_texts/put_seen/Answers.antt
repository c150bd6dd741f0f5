use Rattle.std.proofs.Common.{sym, ◌∙◌}
use Rattle.lin_text.proofs.Growing.{same-growth}
use Rattle.lin_log.proofs.CallerTexts.{quiet-same}
use Rattle.lin_log.proofs.caller_texts.put_seen.Goals as goal

pub returns-then-is_one_line : goal.returns-then-is_one_line
returns-then-is_one_line g c = same-growth (sym (quiet-same c.args.text.now (sym c.is_one_line.ensures ∙ c.if-is_one_line.true))) c.put.ensures
