use Rattle.lin_core.proofs.laws.NoServices.{history-none}
use Rattle.lin_core.proofs.law.no_services.Goals as goal

pub returns : goal.returns
returns c = history-none
