use Rattle.std.proofs.Common.{Vec, Global}
use Rattle.lin_bench.specs.declared.faults.SlotFault.{SlotFault}
use Rattle.lin_tool.proofs.CampaignEnds.{worst-faults-by}
use Rattle.lin_tool.proofs.campaign.Campaign.worst_faults.Goals as goal

pub returns : goal.returns
returns c =
    worst-faults-by (λ (v : Vec SlotFault Global). v.items) c.args.table.now c.args.counts.now c.in_ok-places.places.items c.as_slice.result.now c.faults_at.result c.in_ok-places.ensures c.as_slice.ensures.value c.faults_at.ensures
