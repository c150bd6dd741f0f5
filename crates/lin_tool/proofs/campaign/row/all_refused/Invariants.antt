use Rattle.std.proofs.Common.{◌≡◌, ◌++◌, drop}
use Rattle.lin_tool.specs.campaign.Row.{refused_from, refused_steps}
use Rattle.lin_tool.proofs.campaign.row.all_refused.Given as goal

abbrev pub invariant-loop-end : goal.invariant-loop-end
invariant-loop-end l = l.refused.items ++ refused_from l.log.entries l.from (drop l.end-index l.ends) ≡ refused_steps l.log.entries l.ends
