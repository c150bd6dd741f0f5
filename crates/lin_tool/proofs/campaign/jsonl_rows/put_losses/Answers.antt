use Rattle.std.proofs.Common.{◌+◌, arith, drop, map, sym}
use Rattle.std.specs.Prelude.{codes}
use Rattle.lin_tool.specs.campaign.Jsonl.{loss_object}
use Rattle.lin_tool.specs.Separated.{with_separators}
use Rattle.lin_tool.proofs.CampaignTexts.{at-item, commas, marked-end, marked-next}
use Rattle.lin_tool.proofs.Remaining.{none-put, put-more, put-whole, same-rest}
use Rattle.lin_tool.proofs.campaign.jsonl_rows.put_losses.Goals as goal

pub loop-one-init : goal.loop-one-init
loop-one-init g c = same-rest (sym (commas (map (loss_object c.args.cluster.now) c.args.lost.now))) (none-put c.args.out.now _)

pub loop-one-preserved : goal.loop-one-preserved
loop-one-preserved g c =
    let f = loss_object c.args.cluster.now in
    let xs = c.args.lost.now in
    let i = c.loop-one.one-index in
    let other = codes "," in
    let rest = with_separators other other (map f (drop (i + 1) xs)) in
    put-more rest (put-more _ (same-rest (marked-next f c.loop-one.mark.now other xs i _ (at-item xs i _ (omega arith))) c.loop-one.invariant) c.put.ensures) c.put_loss.ensures

pub returns : goal.returns
returns g c =
    put-whole (same-rest (marked-end (loss_object c.args.cluster.now) c.loop-one.mark.now (codes ",") c.args.lost.now c.loop-one.one-index (omega arith)) c.loop-one.invariant)
