use Rattle.std.proofs.Common.{◌≡◌, ◌∙◌, ◌+◌, ◌-◌, ap, arith, length, refl, sym, take}
use Rattle.std.specs.Option.{option_to_list}
use Rattle.lin_core.specs.History.{finished_slot}
use Rattle.lin_text.specs.Written.{Grows}
use Rattle.lin_text.proofs.Growing.{grows-nothing, same-growth}
use Rattle.lin_tool.specs.campaign.Jsonl.{slot_letters}
use Rattle.lin_tool.proofs.CampaignLogs.{letter-fits, no-letters, of-none, of-slot}
use Rattle.lin_tool.proofs.campaign.jsonl_rows.put_next_letter.Goals as goal

pub returns-in-Some-clause-follows : goal.returns-in-Some-clause-follows
returns-in-Some-clause-follows g c = λ past is. (c.next.ensures past is).0

pub returns-in-Some-clause-count : goal.returns-in-Some-clause-count
returns-in-Some-clause-count g c = λ past is.
    of-slot (finished_slot c.args.entry.now past) _ (λ o. c.args.count + 1 ≡ c.args.count + length (option_to_list o)) (sym c.in-Some.is ∙ (c.next.ensures past is).1) (λ s kept. refl)

pub returns-in-Some-clause-text : goal.returns-in-Some-clause-text
returns-in-Some-clause-text g c = λ past is.
    of-slot (finished_slot c.args.entry.now past) _ (λ o. Grows g.W.Write.contents c.args.out.now c.put_letter.new.out (slot_letters (take (1000 - c.args.count) (option_to_list o))))
    (sym c.in-Some.is ∙ (c.next.ensures past is).1) (λ s kept. same-growth (letter-fits 1000 c.args.count s) (c.put_letter.ensures s kept))

pub returns-in-None-clause-follows : goal.returns-in-None-clause-follows
returns-in-None-clause-follows g c = λ past is. (c.next.ensures past is).0

pub returns-in-None-clause-count : goal.returns-in-None-clause-count
returns-in-None-clause-count g c = λ past is.
    let none = of-none (finished_slot c.args.entry.now past) (sym c.in-None.is ∙ (c.next.ensures past is).1) in
    rw none (omega arith)

pub returns-in-None-clause-text : goal.returns-in-None-clause-text
returns-in-None-clause-text g c = λ past is.
    same-growth
    (no-letters (1000 - c.args.count)
    ∙ ap (λ o. slot_letters (take (1000 - c.args.count) (option_to_list o))) (sym (of-none (finished_slot c.args.entry.now past) (sym c.in-None.is ∙ (c.next.ensures past is).1))))
    (grows-nothing c.args.out.now)
