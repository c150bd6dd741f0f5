use Rattle.std.proofs.Common.{◌≡◌, map, take}
use Rattle.lin_sections.specs.NewNames.{alone, has_in, keyed_name}
use Rattle.lin_sections.specs.Renames.{number_key}
use Rattle.lin_sections.proofs.diff.frame_facts.event_keys.Given as goal

abbrev pub invariant-loop-event : goal.invariant-loop-event
invariant-loop-event l =
    map keyed_name l.keys.items ≡ alone (has_in l.others.map) (map (λ e. number_key e.name e.id) (take l.event-index l.facts.ldf.description.now.events))
