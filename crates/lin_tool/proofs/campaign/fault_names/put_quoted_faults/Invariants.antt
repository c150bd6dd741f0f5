use Rattle.std.proofs.Common.{drop, map}
use Rattle.std.specs.Prelude.{codes}
use Rattle.lin_bench.specs.declared.faults.SlotFault.{SlotFault}
use Rattle.lin_export.specs.Json.{quoted_text, with_commas}
use Rattle.lin_tool.specs.campaign.FaultNames.{fault_text}
use Rattle.lin_tool.specs.Separated.{with_separators}
use Rattle.lin_tool.proofs.Remaining.{PutsUpTo}
use Rattle.lin_tool.proofs.campaign.fault_names.put_quoted_faults.Given as goal

abbrev pub invariant-loop-fault : goal.invariant-loop-fault
invariant-loop-fault g l =
    PutsUpTo g.W.Write.contents l.initial.out l.out (with_commas (map (λ (x : SlotFault). quoted_text (fault_text l.cluster x)) l.faults))
    (with_separators l.mark (codes ",") (map (λ (x : SlotFault). quoted_text (fault_text l.cluster x)) (drop l.fault-index l.faults)))
