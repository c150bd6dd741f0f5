-- What the code counts in a log.
use Rattle.std.specs.Prelude.{Bool}
use Rattle.lin_core.specs.declared.event.Event.{Event}
use Rattle.lin_tool.specs.Page.{is_look, is_lost_event, is_seen}
use Rattle.lin_tool.specs.declared.page.summary.CountedEvents.{CountedEvents}
use Rattle.lin_tool.specs.declared.page.summary.CountedEvents.TheVariants as told

abbrev pub is_told : CountedEvents → Event → Bool
is_told told.Slots event = is_seen event
is_told (told.Seen look) event = is_look look event
is_told told.Lost event = is_lost_event event
