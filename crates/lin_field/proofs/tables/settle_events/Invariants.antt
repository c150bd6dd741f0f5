use Rattle.std.proofs.Common.{◌≡◌, ◌++◌, map}
use Rattle.std.specs.List.{flat_map}
use Rattle.lin_field.specs.Tables.{settled_event, event_warnings}
use Rattle.lin_field.proofs.tables.settle_events.Given as goal

abbrev pub invariant-loop-event : goal.invariant-loop-event
invariant-loop-event l = record {
  settled : l.settled.items ++ map (settled_event l.tables) l.event-iterator.rest.items ≡ map (settled_event l.tables) l.fn.events;
  warned : l.warned.items ++ flat_map (event_warnings l.is_told l.tables) l.event-iterator.rest.items ≡ l.fn.warned.items ++ flat_map (event_warnings l.is_told l.tables) l.fn.events;
}
