use Rattle.std.proofs.Common.{ap}
use Rattle.lin_text.proofs.Growing.{same-growth}
use Rattle.lin_log.specs.Words.{spaced_word}
use Rattle.lin_log.proofs.Words.{word-called}
use Rattle.lin_log.proofs.writing.put_signal.Goals as goal

pub returns : goal.returns
returns g c =
    same-growth (ap spaced_word (word-called (g.N.Naming.language c.args.names.now).signals c.args.signal c.name_of_signal.result c.name_of_signal.ensures)) (rw c.from.ensures at c.put_called.ensures)
