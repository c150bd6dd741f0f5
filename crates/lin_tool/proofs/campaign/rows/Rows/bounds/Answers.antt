use Rattle.std.proofs.Common.{◌≤◌, arith, length}
use Rattle.lin_tool.specs.campaign.Rows.{rows}
use Rattle.lin_tool.proofs.CampaignRows.{bound-within}
use Rattle.lin_tool.proofs.campaign.rows.Rows.bounds.Goals as goal

pub returns-clause-within : goal.returns-clause-within
returns-clause-within c =
    let part = c.args.part in
    let some : 1 ≤ part.count = omega arith in
    rw c.bound-2.ensures (bound-within (length (rows c.args.self.now)) part.number part.count some c.requires.part.1)
