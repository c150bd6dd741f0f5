use Rattle.std.proofs.Common.{◌≡◌, ◌++◌, take}
use Rattle.std.specs.List.{flat_map}
use Rattle.lin_field.specs.Attributes.{new_drafts}
use Rattle.lin_field.proofs.attributes.new_drafts.Given as goal

abbrev pub invariant-loop-node : goal.invariant-loop-node
invariant-loop-node l = l.drafts.items ≡ new_drafts l.told l.blocks l.told.nodes.master ++ flat_map (new_drafts l.told l.blocks) (take l.node-index l.node-items)
