use Rattle.std.proofs.Common.{◌≡◌, map, take}
use Rattle.lin_cluster.specs.Described.{node_number}
use Rattle.lin_cluster.proofs.described.signals.subscribers_of.Given as goal

abbrev pub invariant-loop-name : goal.invariant-loop-name
invariant-loop-name l = l.nodes.items ≡ map (node_number l.d) (take l.name-index l.names)
