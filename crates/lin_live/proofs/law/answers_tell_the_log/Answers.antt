use Rattle.lin_live.proofs.Growth.{answers-are-the-log, answers-are-written}
use Rattle.lin_live.proofs.law.answers_tell_the_log.Goals as goal

pub returns-clause-entries : goal.returns-clause-entries
returns-clause-entries c = answers-are-the-log

pub returns-clause-text : goal.returns-clause-text
returns-clause-text c = answers-are-written
