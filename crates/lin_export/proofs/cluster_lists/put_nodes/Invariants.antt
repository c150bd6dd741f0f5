use Rattle.std.proofs.Common.{take}
use Rattle.lin_text.specs.Written.{Grows}
use Rattle.lin_export.specs.Listing.{node_line, numbered_lines}
use Rattle.lin_export.proofs.cluster_lists.put_nodes.Given as goal

abbrev pub invariant-loop-node : goal.invariant-loop-node
invariant-loop-node g l = Grows g.W.Write.contents l.initial.out l.out (numbered_lines node_line 0 (take l.node l.fn.cluster.nodes))
