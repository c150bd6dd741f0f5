use Rattle.std.proofs.Common.{◌≡◌, take}
use Rattle.lin_sections.proofs.coding_sections.copied_names.Given as goal

abbrev pub invariant-loop-name : goal.invariant-loop-name
invariant-loop-name l = l.all.items ≡ take l.name-index l.names
