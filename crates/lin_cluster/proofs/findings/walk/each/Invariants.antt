use Rattle.std.proofs.Common.{◌≡◌, ◌++◌, take}
use Rattle.std.specs.List.{flat_map}
use Rattle.lin_cluster.proofs.findings.walk.each.Given as goal

abbrev pub invariant-loop-item : goal.invariant-loop-item
invariant-loop-item g l = l.found.items ≡ l.fn.found.items ++ flat_map (g.F.Finds.finds l.finder) (take l.item-index l.items)
