use Rattle.std.proofs.Common.{◌≡◌, take}
use Rattle.std.specs.Option.{unwrap_or}
use Rattle.lin_core.specs.History.{Slot, slot_after_events}
use Rattle.lin_bench.specs.Arrivals.{entry_place}
use Rattle.lin_bench.proofs.arrivals.place_told.Given as goal

abbrev pub invariant-loop-event : goal.invariant-loop-event
invariant-loop-event l = (s : Slot) → entry_place (slot_after_events (take l.event-index l.events) s) ≡ unwrap_or l.told (entry_place s)
