use Rattle.std.proofs.Common.{◌≡◌, ◌++◌, map, take}
use Rattle.std.specs.Prelude.{filter}
use Rattle.lin_sections.specs.NewNames.{renames_data}
use Rattle.lin_sections.specs.Things.{attribute_fact, is_other_attribute}
use Rattle.lin_sections.proofs.diff.node_facts.add_all.Given as goal

abbrev pub invariant-loop-attribute : goal.invariant-loop-attribute
invariant-loop-attribute l =
    l.facts.items
    ≡ l.initial.facts.items ++ map (attribute_fact (renames_data l.renames)) (filter is_other_attribute (take l.attribute-index l.attributes))
