use Rattle.lin_tool.proofs.CampaignScripts.{judged-undisturbed, limited-undisturbed}
use Rattle.lin_tool.proofs.campaign.Campaign.undisturbed.Goals as goal

pub returns-in-None : goal.returns-in-None
returns-in-None c =
    judged-undisturbed c.args.self.now c.args.cluster c.args.lines.items c.in_ok-played.played c.judged.result c.in_ok-played.ensures.plays c.in-None.is c.judged.ensures.row c.judged.ensures.fails

pub returns-in_ok-limit_fault-in-Some : goal.returns-in_ok-limit_fault-in-Some
returns-in_ok-limit_fault-in-Some c =
    limited-undisturbed c.args.self.now c.args.cluster c.args.lines.items c.in_ok-played.played c.in-Some.place _ c.in_ok-played.ensures.plays c.in-Some.is c.in_ok-limit_fault-in-Some.ensures
