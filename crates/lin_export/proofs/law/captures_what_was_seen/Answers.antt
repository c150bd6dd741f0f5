use Rattle.lin_export.proofs.Captures.{history-read}
use Rattle.lin_export.proofs.law.captures_what_was_seen.Goals as goal

pub returns : goal.returns
returns c = history-read
