use Rattle.std.proofs.Common.{◌≡◌, ◌++◌, map, take}
use Rattle.std.specs.List.{enumerate_from}
use Rattle.lin_cluster.specs.Described.{responder}
use Rattle.lin_cluster.proofs.described.nodes.add_responders.Given as goal

abbrev pub invariant-loop-i : goal.invariant-loop-i
invariant-loop-i l = l.nodes.items ≡ l.fn.nodes.items ++ map (responder l.d) (enumerate_from 1 (take l.i l.slaves))
