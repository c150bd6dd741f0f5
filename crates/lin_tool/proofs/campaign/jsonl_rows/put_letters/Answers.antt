use Rattle.std.proofs.Common.{◌∙◌, ◌+◌, ◌-◌, ◌<◌, ◌++◌, ap, arith, length, refl, reverse, subst, sym, take}
use Rattle.std.specs.Option.{option_to_list}
use Rattle.std.proofs.lemmas.List.{take_all}
use Rattle.lin_core.specs.History.{finished_slot}
use Rattle.lin_log.proofs.LastFinish.{newest-first}
use Rattle.lin_text.proofs.Growing.{grows-more, grows-nothing, same-growth}
use Rattle.lin_tool.specs.Placing.{past_at}
use Rattle.lin_tool.specs.campaign.Jsonl.{slot_letters}
use Rattle.lin_tool.specs.campaign.Slots.{HasRead, slots_of}
use Rattle.lin_tool.proofs.CampaignLogs.{count-next, letters-next, one-most}
use Rattle.lin_tool.proofs.campaign.jsonl_rows.put_letters.Goals as goal

pub loop-index-init : goal.loop-index-init
loop-index-init g c = record { put = grows-nothing c.args.out.now; follows = c.new-reader.ensures; count = refl; few = omega arith }

pub loop-index-preserved : goal.loop-index-preserved
loop-index-preserved g c =
    let log = c.args.log.now.entries in
    let i = c.loop-index.index in
    let e = c.entry.result.now in
    let there : i < length log = omega (arith, c.len-index-end.ensures.len) in
    let past = past_at log i in
    let old = c.loop-index.invariant.count in
    let count = c.put_next_letter-count.ensures.count past c.loop-index.invariant.follows in
    let most = one-most e past in
    record {
      put =
          same-growth (ap (λ n. slot_letters (take 1000 (slots_of past)) ++ slot_letters (take (1000 - n) (option_to_list (finished_slot e past)))) old ∙ letters-next 1000 log i e there c.entry.ensures)
          (grows-more c.loop-index.invariant.put (c.put_next_letter-count.ensures.text past c.loop-index.invariant.follows));
      follows = subst (λ p. HasRead c.put_next_letter-count.new.reader p) (sym (newest-first log i e there c.entry.ensures)) (c.put_next_letter-count.ensures.follows past c.loop-index.invariant.follows);
      count = count ∙ ap (λ n. n + length (option_to_list (finished_slot e past))) old ∙ count-next log i e there c.entry.ensures;
      few = omega (arith, count, most);
    }

pub returns : goal.returns
returns g c =
    same-growth (ap (λ l. slot_letters (take 1000 (slots_of (reverse l)))) (take_all c.loop-index.index c.args.log.now.entries (omega (arith, c.len-index-end.ensures.len)))) c.loop-index.invariant.put
