use Rattle.std.proofs.Common.{◌++◌, arith, sym}
use Rattle.std.specs.Prelude.{codes}
use Rattle.lin_text.proofs.Growing.{grows-more, same-growth, texts-next}
use Rattle.lin_tool.specs.campaign.FaultNames.{fault_text}
use Rattle.lin_tool.proofs.campaign.fault_names.put_more_faults.Goals as goal

pub loop-fault-preserved : goal.loop-fault-preserved
loop-fault-preserved g c =
    same-growth (sym (texts-next (λ f. codes "+" ++ fault_text c.args.cluster.now f) c.args.faults.now c.loop-fault.fault-index _ (omega arith)))
    (grows-more c.loop-fault.invariant (grows-more c.put_byte.ensures c.put_fault.ensures))
