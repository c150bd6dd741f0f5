use Rattle.lin_schedule.proofs.Excursions.{excursion-IsExcursion}
use Rattle.lin_schedule.proofs.law.excursions_run_once.Goals as goal

pub returns : goal.returns
returns c = excursion-IsExcursion
