use Rattle.lin_export.proofs.Dumps.{history-dumped}
use Rattle.lin_export.proofs.law.dumps_last_values.Goals as goal

pub returns : goal.returns
returns c = history-dumped _ c.sound.ensures.rules
