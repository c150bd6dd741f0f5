use Rattle.std.proofs.Common.{◌≡◌, map, take}
use Rattle.lin_sections.specs.Facts.{place_of_name}
use Rattle.lin_sections.specs.Things.{item_fact}
use Rattle.lin_sections.proofs.diff.encoding_facts.facts_of.Given as goal

abbrev pub invariant-loop-one : goal.invariant-loop-one
invariant-loop-one l =
    l.found.items ≡ map (λ p. item_fact (place_of_name l.coding.name) p.item) (take l.one-index l.coding.items)
