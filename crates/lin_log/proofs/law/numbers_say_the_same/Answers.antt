use Rattle.lin_log.proofs.Stays.{lines-stay, texts-stay}
use Rattle.lin_log.proofs.law.numbers_say_the_same.Goals as goal

pub returns-clause-lines : goal.returns-clause-lines
returns-clause-lines c = lines-stay

pub returns-clause-texts : goal.returns-clause-texts
returns-clause-texts c = texts-stay
