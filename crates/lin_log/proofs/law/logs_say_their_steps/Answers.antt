use Rattle.lin_log.proofs.Again.{lines-again}
use Rattle.lin_log.proofs.Texts.{texts-again}
use Rattle.lin_log.proofs.law.logs_say_their_steps.Goals as goal

pub returns-clause-lines : goal.returns-clause-lines
returns-clause-lines c = lines-again

pub returns-clause-texts : goal.returns-clause-texts
returns-clause-texts c = texts-again
