use Rattle.std.proofs.Common.{◌∙◌, List, ap, arith, refl, sym}
use Rattle.lin_core.specs.History.{slot_after_event, slot_after_events}
use Rattle.lin_core.specs.declared.event.Event.{Event}
use Rattle.lin_export.proofs.Slots.{drop-end, drop-next}
use Rattle.lin_tool.specs.campaign.Slots.{kept_of_slot}
use Rattle.lin_tool.proofs.campaign.finished_slots.KeptSlot.tell_all.Goals as goal

pub loop-event-init : goal.loop-event-init
loop-event-init c = λ s is. (s, is, refl)

pub loop-event-preserved : goal.loop-event-preserved
loop-event-preserved c = λ s is.
    let (t, at, rest) = c.loop-event.invariant s is in
    let es = c.args.events.now in
    let e = c.event-item.result in
    (slot_after_event e t, c.tell.ensures t at, sym (ap (λ (l : List Event). slot_after_events l t) (drop-next es c.loop-event.event-index e c.event-item.is (omega arith))) ∙ rest)

pub returns : goal.returns
returns c = λ s is.
    let (t, at, rest) = c.loop-event.invariant s is in
    at ∙ ap kept_of_slot (sym (ap (λ (l : List Event). slot_after_events l t) (drop-end c.args.events.now c.loop-event.event-index (omega arith))) ∙ rest)
