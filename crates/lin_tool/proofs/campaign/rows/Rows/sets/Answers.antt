use Rattle.std.proofs.Common.{◌∙◌, sym}
use Rattle.lin_tool.proofs.CampaignRows.{length-sets}
use Rattle.lin_tool.proofs.campaign.rows.Rows.sets.Goals as goal

pub returns-in-Some-clause-count : goal.returns-in-Some-clause-count
returns-in-Some-clause-count c = c.sets.ensures.count ∙ sym (length-sets c.args.self.now.random _ c.args.self.now.singles c.in-Some.is)
