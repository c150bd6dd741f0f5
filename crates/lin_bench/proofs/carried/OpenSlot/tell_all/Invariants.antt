use Rattle.std.proofs.Common.{◌≡◌, take}
use Rattle.lin_core.specs.History.{Slot, slot_after_events}
use Rattle.lin_bench.specs.Carried.{shape, shape_in}
use Rattle.lin_bench.proofs.carried.OpenSlot.tell_all.Given as goal

abbrev pub invariant-loop-event : goal.invariant-loop-event
invariant-loop-event l = (s : Slot) → shape_in l.initial.self ≡ shape s → shape_in l.self ≡ shape (slot_after_events (take l.event-index l.events) s)
