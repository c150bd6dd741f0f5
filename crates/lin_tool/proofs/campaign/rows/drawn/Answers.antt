use Rattle.std.proofs.Common.{rules}
use Rattle.lin_tool.specs.campaign.Rows.{drawn}
use Rattle.lin_tool.proofs.campaign.rows.drawn.Goals as goal

pub returns : goal.returns
unfolding drawn
returns c = search rules
