use Rattle.std.proofs.Common.{◌≡◌, take}
use Rattle.lin_core.specs.History.{Slot, slot_after_events}
use Rattle.lin_tool.specs.Placing.{entry_in}
use Rattle.lin_tool.proofs.placing.told_by_all.Given as goal

abbrev pub invariant-loop-event : goal.invariant-loop-event
invariant-loop-event l = (s : Slot) → l.fn.entry ≡ entry_in s → l.told ≡ entry_in (slot_after_events (take l.event-index l.events) s)
