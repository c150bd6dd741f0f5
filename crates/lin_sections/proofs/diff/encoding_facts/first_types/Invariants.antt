use Rattle.std.proofs.Common.{◌≡◌, [], map, take}
use Rattle.lin_sections.specs.Things.{first_types}
use Rattle.lin_sections.proofs.diff.encoding_facts.first_types.Given as goal

abbrev pub invariant-loop-number : goal.invariant-loop-number
invariant-loop-number l =
    map (λ t. t.now) l.firsts.items ≡ first_types [] (take l.number l.types)
