use Rattle.std.proofs.Common.{◌≡◌, [], ◌++◌, take}
use Rattle.lin_sections.specs.AttributeLints.{of_attribute, HasWords}
use Rattle.lin_values.specs.Warnings.{told_by}
use Rattle.lin_sections.proofs.attribute_lints.add_block.Given as goal

abbrev pub invariant-loop-attribute : goal.invariant-loop-attribute
invariant-loop-attribute l =
    (l.found.items ≡ l.fn.found.items ++ told_by (of_attribute l.nodes l.block.node) [] (take l.attribute-index l.block.attributes))
    × HasWords l.words.map (take l.attribute-index l.block.attributes)
