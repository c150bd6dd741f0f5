use Rattle.std.proofs.Common.{◌≡◌, map, take}
use Rattle.lin_sections.specs.NewNames.{renames_data}
use Rattle.lin_sections.specs.Things.{encoding_thing}
use Rattle.lin_sections.proofs.diff.encoding_facts.things.Given as goal

abbrev pub invariant-loop-coding : goal.invariant-loop-coding
invariant-loop-coding l =
    l.things.items ≡ map (λ t. encoding_thing (renames_data l.renames) t.now) (take l.coding-index l.types)
