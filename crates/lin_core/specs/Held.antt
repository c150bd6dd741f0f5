-- Promises rest on this: the events of an entry, as they are held.
use Rattle.std.specs.Prelude.{List, [], ◌∷◌}
use Rattle.lin_core.specs.declared.event.Event.{Event}
use Rattle.lin_core.specs.declared.payload.Held.{Held}
use Rattle.lin_core.specs.declared.payload.Held.TheVariants.{Listed, One}

abbrev pub events_in : Held → List Event
events_in (One event) = event ∷ []
events_in (Listed events) = events.items
