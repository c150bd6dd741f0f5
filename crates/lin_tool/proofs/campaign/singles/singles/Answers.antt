use Rattle.std.proofs.Common.{take}
use Rattle.lin_tool.specs.campaign.Slots.{finished_slots}
use Rattle.lin_tool.proofs.CampaignSingles.{few-singles}
use Rattle.lin_tool.proofs.campaign.singles.singles.Goals as goal

pub returns-clause-few : goal.returns-clause-few
returns-clause-few c =
    rw c.loop-index.invariant.found.all (few-singles c.args.cluster.now c.args.kinds (finished_slots (take c.loop-index.index c.args.log.now.entries)))
