use Rattle.std.proofs.Common.{◌≡◌, map, take}
use Rattle.lin_sections.specs.NewNames.{renames_data}
use Rattle.lin_sections.specs.Things.{sporadic_thing}
use Rattle.lin_sections.proofs.diff.frame_facts.sporadic_things.Given as goal

abbrev pub invariant-loop-sporadic : goal.invariant-loop-sporadic
invariant-loop-sporadic l =
    l.things.items ≡ map (sporadic_thing (renames_data l.renames)) (take l.sporadic-index l.facts.ldf.description.now.sporadic)
