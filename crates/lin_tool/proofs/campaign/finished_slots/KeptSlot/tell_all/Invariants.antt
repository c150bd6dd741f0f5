use Rattle.std.proofs.Common.{◌≡◌, drop}
use Rattle.lin_core.specs.History.{Slot, slot_after_events}
use Rattle.lin_tool.specs.campaign.Slots.{kept_of_slot}
use Rattle.lin_tool.proofs.campaign.finished_slots.KeptSlot.tell_all.Given as goal

abbrev pub invariant-loop-event : goal.invariant-loop-event
invariant-loop-event l =
    (s : Slot) → l.initial.self ≡ kept_of_slot s → (t : Slot) × (l.self ≡ kept_of_slot t) × (slot_after_events (drop l.event-index l.events) t ≡ slot_after_events l.events s)
