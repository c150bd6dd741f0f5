use Rattle.std.proofs.Common.{◌≡◌, flat_map, map, take}
use Rattle.lin_sections.specs.NewNames.{alone, has_in, keyed_name, renames_data}
use Rattle.lin_sections.specs.Renames.{all_places, signal_key}
use Rattle.lin_sections.specs.Things.{compared_data}
use Rattle.lin_sections.proofs.diff.signal_facts.keys.Given as goal

abbrev pub invariant-loop-signal : goal.invariant-loop-signal
invariant-loop-signal l =
    map keyed_name l.keys.items
    ≡ alone (has_in l.others.map) (flat_map (λ s. signal_key s (all_places (compared_data l.facts.ldf) (renames_data l.renames) s.name.text)) (take l.signal-index l.facts.ldf.description.now.signals))
