use Rattle.std.proofs.Common.{◌<◌, ap, arith, flat_map, length, reverse, subst, sym}
use Rattle.std.proofs.lemmas.List.{take_all}
use Rattle.lin_log.proofs.LastFinish.{newest-first}
use Rattle.lin_text.proofs.Growing.{grows-more, grows-nothing, same-growth}
use Rattle.lin_tool.specs.Placing.{past_at}
use Rattle.lin_tool.specs.campaign.Page.{page_slot}
use Rattle.lin_tool.specs.campaign.Slots.{HasRead, slots_of}
use Rattle.lin_tool.proofs.CampaignLogs.{slots-next}
use Rattle.lin_tool.proofs.campaign.page.put_slots.Goals as goal

pub loop-index-init : goal.loop-index-init
loop-index-init g c = record { put = grows-nothing c.args.out.now; follows = c.new-reader.ensures }

pub loop-index-preserved : goal.loop-index-preserved
loop-index-preserved g c =
    let log = c.args.log.now.entries in
    let i = c.loop-index.index in
    let there : i < length log = omega (arith, c.len-index-end.ensures.len) in
    let past = past_at log i in
    record {
      put =
          same-growth (slots-next (page_slot c.args.cluster.now) log i c.entry.result.now there c.entry.ensures)
          (grows-more c.loop-index.invariant.put (c.put_next_slot.ensures.text past c.loop-index.invariant.follows));
      follows =
          subst (λ p. HasRead c.put_next_slot.new.reader p) (sym (newest-first log i c.entry.result.now there c.entry.ensures))
          (c.put_next_slot.ensures.follows past c.loop-index.invariant.follows);
    }

pub returns : goal.returns
returns g c =
    same-growth (ap (λ l. flat_map (page_slot c.args.cluster.now) (slots_of (reverse l))) (take_all c.loop-index.index c.args.log.now.entries (omega (arith, c.len-index-end.ensures.len))))
    c.loop-index.invariant.put
