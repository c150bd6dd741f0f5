use Rattle.std.proofs.Common.{◌≡◌, map, take}
use Rattle.lin_sections.specs.NewNames.{renames_data}
use Rattle.lin_sections.specs.Things.{compared_data, signal_thing}
use Rattle.lin_sections.proofs.diff.signal_facts.things.Given as goal

abbrev pub invariant-loop-signal : goal.invariant-loop-signal
invariant-loop-signal l =
    l.things.items ≡ map (signal_thing (compared_data l.facts.ldf) (renames_data l.renames)) (take l.signal-index l.facts.ldf.description.now.signals)
