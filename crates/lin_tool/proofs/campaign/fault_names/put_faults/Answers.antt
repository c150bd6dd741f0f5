use Rattle.std.proofs.Common.{ap, sym}
use Rattle.lin_text.proofs.Growing.{grows-more, same-growth}
use Rattle.lin_bench.proofs.Appending.{head-and-rest}
use Rattle.lin_tool.specs.campaign.FaultNames.{faults_text}
use Rattle.lin_tool.proofs.campaign.fault_names.put_faults.Goals as goal

pub returns-in-len1-up : goal.returns-in-len1-up
returns-in-len1-up g c =
    same-growth (sym (ap (faults_text c.args.cluster.now) (head-and-rest c.args.faults.now _ c.in-len1-up.len_at_least)))
    (grows-more c.put_fault.ensures c.put_more_faults.ensures)
