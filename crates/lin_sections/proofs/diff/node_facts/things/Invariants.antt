use Rattle.std.proofs.Common.{◌≡◌, ◌∷◌, map, take}
use Rattle.lin_sections.specs.NewNames.{renames_data}
use Rattle.lin_sections.specs.Things.{commander_thing, compared_data, responder_thing}
use Rattle.lin_sections.proofs.diff.node_facts.things.Given as goal

abbrev pub invariant-loop-slave : goal.invariant-loop-slave
invariant-loop-slave l =
    l.things.items
    ≡ commander_thing (compared_data l.facts.ldf) (renames_data l.renames)
    ∷ map (responder_thing (compared_data l.facts.ldf) (renames_data l.renames)) (take l.slave-index l.facts.ldf.description.now.slaves)
