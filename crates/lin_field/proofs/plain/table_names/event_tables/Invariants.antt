use Rattle.std.proofs.Common.{◌≡◌, take, map}
use Rattle.lin_field.specs.Plain.{plain_name}
use Rattle.lin_field.proofs.plain.table_names.event_tables.Given as goal

abbrev pub invariant-loop-event : goal.invariant-loop-event
invariant-loop-event l =
    l.names.items
    ≡ map (λ e. plain_name (map (λ n. n.now) l.declared) e.table) (take l.event-index l.events)
