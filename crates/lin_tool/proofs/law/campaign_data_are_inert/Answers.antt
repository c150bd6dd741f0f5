use Rattle.lin_tool.proofs.CampaignInert.{campaign-inert}
use Rattle.lin_tool.proofs.law.campaign_data_are_inert.Goals as goal

pub returns : goal.returns
returns c = campaign-inert
