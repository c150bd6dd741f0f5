use Rattle.std.proofs.Common.{arith}
use Rattle.lin_export.specs.Listing.{node_line}
use Rattle.lin_text.proofs.Growing.{grows-nothing}
use Rattle.lin_export.proofs.NumberedLines.{lines-next}
use Rattle.lin_export.proofs.cluster_lists.put_nodes.Goals as goal

pub loop-node-init : goal.loop-node-init
loop-node-init g c = grows-nothing c.args.out.now

pub loop-node-preserved : goal.loop-node-preserved
loop-node-preserved g c = lines-next node_line c.args.cluster.now.nodes c.loop-node.node _ (omega arith) c.loop-node.invariant c.put_node.ensures
