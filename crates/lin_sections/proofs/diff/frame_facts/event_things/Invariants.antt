use Rattle.std.proofs.Common.{◌≡◌, map, take}
use Rattle.lin_sections.specs.NewNames.{renames_data}
use Rattle.lin_sections.specs.Things.{event_thing}
use Rattle.lin_sections.proofs.diff.frame_facts.event_things.Given as goal

abbrev pub invariant-loop-event : goal.invariant-loop-event
invariant-loop-event l =
    l.things.items ≡ map (event_thing (renames_data l.renames)) (take l.event-index l.facts.ldf.description.now.events)
