use Rattle.lin_tool.proofs.campaign.Campaign.put_tail.Goals as goal

pub returns-in-Junit : goal.returns-in-Junit
returns-in-Junit g c = rw c.in-Junit.is c.put_text.ensures

pub returns-in-Html : goal.returns-in-Html
returns-in-Html g c = rw c.in-Html.is c.put_text-in-Html.ensures
