use Rattle.lin_tool.proofs.CampaignRows.{parts-joined}
use Rattle.lin_tool.proofs.campaign.rows.parts_are_the_whole.Goals as goal

pub returns : goal.returns
returns c = parts-joined
