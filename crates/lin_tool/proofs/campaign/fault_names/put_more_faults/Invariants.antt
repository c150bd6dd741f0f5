use Rattle.std.proofs.Common.{◌++◌, flat_map, take}
use Rattle.std.specs.Prelude.{codes}
use Rattle.lin_text.specs.Written.{Grows}
use Rattle.lin_tool.specs.campaign.FaultNames.{fault_text}
use Rattle.lin_tool.proofs.campaign.fault_names.put_more_faults.Given as goal

abbrev pub invariant-loop-fault : goal.invariant-loop-fault
invariant-loop-fault g l =
    Grows g.W.Write.contents l.initial.out l.out (flat_map (λ f. codes "+" ++ fault_text l.cluster f) (take l.fault-index l.faults))
