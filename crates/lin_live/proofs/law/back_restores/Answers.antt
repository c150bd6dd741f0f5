use Rattle.lin_live.proofs.Returning.{back-restores, marks-stay, parameters-stay}
use Rattle.lin_live.proofs.law.back_restores.Goals as goal

pub returns-clause-bench : goal.returns-clause-bench
returns-clause-bench c = back-restores

pub returns-clause-mark : goal.returns-clause-mark
returns-clause-mark c = marks-stay

pub returns-clause-parameters : goal.returns-clause-parameters
returns-clause-parameters c = parameters-stay
