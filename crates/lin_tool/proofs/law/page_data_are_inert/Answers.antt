use Rattle.lin_tool.proofs.Inert.{data-inert}
use Rattle.lin_tool.proofs.law.page_data_are_inert.Goals as goal

pub returns : goal.returns
returns c = data-inert
