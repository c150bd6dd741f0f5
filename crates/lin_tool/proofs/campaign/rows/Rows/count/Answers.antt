use Rattle.std.proofs.Common.{arith}
use Rattle.lin_tool.proofs.CampaignRows.{count-rows}
use Rattle.lin_tool.proofs.campaign.rows.Rows.count.Goals as goal

pub returns : goal.returns
returns c = omega (arith, count-rows c.args.self.now, c.pairs.ensures.count, c.sets.ensures.count)
