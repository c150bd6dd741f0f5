use Rattle.std.proofs.Common.{◌∙◌, ap, flat_map, sym}
use Rattle.std.specs.Option.{option_to_list}
use Rattle.lin_log.proofs.Ends.{grows-last}
use Rattle.lin_text.specs.Written.{Grows}
use Rattle.lin_text.proofs.Growing.{grows-nothing, same-growth}
use Rattle.lin_core.specs.History.{finished_slot}
use Rattle.lin_tool.specs.campaign.Page.{page_slot}
use Rattle.lin_tool.proofs.CampaignLogs.{of-none, of-slot}
use Rattle.lin_tool.proofs.campaign.page.put_next_slot.Goals as goal

pub returns-in-Some-clause-follows : goal.returns-in-Some-clause-follows
returns-in-Some-clause-follows g c = λ past is. (c.next.ensures past is).0

pub returns-in-Some-clause-text : goal.returns-in-Some-clause-text
returns-in-Some-clause-text g c = λ past is.
    of-slot (finished_slot c.args.entry.now past) _ (λ o. Grows g.W.Write.contents c.args.out.now c.put_slot.new.out (flat_map (page_slot c.args.cluster.now) (option_to_list o)))
    (sym c.in-Some.is ∙ (c.next.ensures past is).1) (λ s kept. grows-last (c.put_slot.ensures s kept))

pub returns-in_default-clause-follows : goal.returns-in_default-clause-follows
returns-in_default-clause-follows g c = λ past is. (c.next.ensures past is).0

pub returns-in_default-clause-text : goal.returns-in_default-clause-text
returns-in_default-clause-text g c = λ past is.
    same-growth (ap (λ o. flat_map (page_slot c.args.cluster.now) (option_to_list o)) (sym (of-none (finished_slot c.args.entry.now past) (sym c.in_default.is ∙ (c.next.ensures past is).1))))
    (grows-nothing c.args.out.now)
