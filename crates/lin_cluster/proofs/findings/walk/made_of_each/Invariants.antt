use Rattle.std.proofs.Common.{◌≡◌, map, take}
use Rattle.lin_cluster.proofs.findings.walk.made_of_each.Given as goal

abbrev pub invariant-loop-item : goal.invariant-loop-item
invariant-loop-item g l = l.made.items ≡ map (g.M.Makes.makes l.maker) (take l.item-index l.items)
