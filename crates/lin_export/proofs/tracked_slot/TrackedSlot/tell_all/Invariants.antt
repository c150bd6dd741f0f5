use Rattle.std.proofs.Common.{◌≡◌, drop}
use Rattle.lin_core.specs.History.{slot_after_events}
use Rattle.lin_export.specs.Open.{tracked_slot}
use Rattle.lin_export.specs.Track.{shown_slot}
use Rattle.lin_export.proofs.tracked_slot.TrackedSlot.tell_all.Given as goal

abbrev pub invariant-loop-event : goal.invariant-loop-event
invariant-loop-event l = shown_slot (slot_after_events (drop l.event-index l.events) (tracked_slot l.self)) ≡ shown_slot (slot_after_events l.events (tracked_slot l.initial.self))
