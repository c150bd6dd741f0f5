use Rattle.std.proofs.Common.{◌+◌, List, drop, sym, ap, ◌∙◌, arith}
use Rattle.lin_core.specs.History.{slot_after_events}
use Rattle.lin_core.specs.declared.event.Event.{Event}
use Rattle.lin_export.specs.Open.{tracked_slot}
use Rattle.lin_export.specs.Track.{shown_slot}
use Rattle.lin_export.proofs.Slots.{drop-end, drop-next, told-next}
use Rattle.lin_export.proofs.tracked_slot.TrackedSlot.tell_all.Goals as goal

pub loop-event-preserved : goal.loop-event-preserved
loop-event-preserved c =
    let es = c.args.events.now in
    let i = c.loop-event.event-index in
    let e = c.event-item.result in
    told-next e (drop (i + 1) es) (tracked_slot c.loop-event.self) (tracked_slot c.tell.new.self) (rw c.in_ok-tell.was at c.tell.ensures)
    ∙ ap (λ (l : List Event). shown_slot (slot_after_events l (tracked_slot c.loop-event.self))) (sym (drop-next es i e c.event-item.is (omega arith)))
    ∙ c.loop-event.invariant

pub returns : goal.returns
returns c =
    ap (λ (l : List Event). shown_slot (slot_after_events l (tracked_slot c.loop-event.self))) (sym (drop-end c.args.events.now c.loop-event.event-index (omega arith)))
    ∙ c.loop-event.invariant
