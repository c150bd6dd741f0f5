use Rattle.std.proofs.Common.{◌+◌, arith, drop, map, sym}
use Rattle.std.specs.Prelude.{codes}
use Rattle.lin_bench.specs.declared.faults.SlotFault.{SlotFault}
use Rattle.lin_export.specs.Json.{quoted_text}
use Rattle.lin_tool.specs.campaign.FaultNames.{fault_text}
use Rattle.lin_tool.specs.Separated.{with_separators}
use Rattle.lin_tool.proofs.CampaignTexts.{at-item, commas, marked-end, marked-next}
use Rattle.lin_tool.proofs.Remaining.{none-put, put-more, put-whole, same-rest}
use Rattle.lin_tool.proofs.campaign.fault_names.put_quoted_faults.Goals as goal

pub loop-fault-init : goal.loop-fault-init
loop-fault-init g c = same-rest (sym (commas (map (λ (x : SlotFault). quoted_text (fault_text c.args.cluster.now x)) c.args.faults.now))) (none-put c.args.out.now _)

pub loop-fault-preserved : goal.loop-fault-preserved
loop-fault-preserved g c =
    let f = λ (x : SlotFault). quoted_text (fault_text c.args.cluster.now x) in
    let xs = c.args.faults.now in
    let i = c.loop-fault.fault-index in
    let other = codes "," in
    let rest = with_separators other other (map f (drop (i + 1) xs)) in
    put-more rest
    (put-more _ (same-rest (marked-next f c.loop-fault.mark.now other xs i _ (at-item xs i _ (omega arith))) c.loop-fault.invariant) c.put.ensures) c.put_quoted_fault.ensures

pub returns : goal.returns
returns g c =
    put-whole
    (same-rest
    (marked-end (λ (x : SlotFault). quoted_text (fault_text c.args.cluster.now x)) c.loop-fault.mark.now (codes ",") c.args.faults.now c.loop-fault.fault-index (omega arith))
    c.loop-fault.invariant)
