use Rattle.std.proofs.Common.{◌∙◌, ◌++◌, ap, arith}
use Rattle.lin_tool.proofs.CampaignSingles.{absent-all}
use Rattle.lin_tool.proofs.campaign.singles.add_absent.Goals as goal

pub returns : goal.returns
returns c =
    rw c.if-not-is_wanted.false
    (c.loop-node.invariant ∙ ap (λ l. c.args.singles.now.items ++ l) (absent-all c.args.first c.args.goes_on c.args.answered.now c.loop-node.node (omega arith)))
