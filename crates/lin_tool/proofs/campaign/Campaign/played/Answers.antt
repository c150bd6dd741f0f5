use Rattle.std.proofs.lemmas.Result.{err_from_is_err_and}
use Rattle.lin_tool.proofs.CampaignScripts.{unplayed-fault}
use Rattle.lin_tool.proofs.campaign.Campaign.played.Goals as goal

pub returns-in_err-played-clause-fails : goal.returns-in_err-played-clause-fails
returns-in_err-played-clause-fails c =
    let on = c.args.self.now in
    let p = err_from_is_err_and c.from_residual.result c.from_residual.ensures.1 in
    rw (p.1, p.2) (unplayed-fault on c.args.cluster c.args.faults.now c.args.lines.items c.in_err-played.field-0.0 c.in_err-played.ensures.plays)
