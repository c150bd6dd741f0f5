use Rattle.std.proofs.Common.{sym}
use Rattle.lin_text.proofs.Growing.{grows-more, same-growth}
use Rattle.lin_export.proofs.Objects.{joined-numbers}
use Rattle.lin_live.specs.Values.{node_value}
use Rattle.lin_live.proofs.answer_objects.put_nodes.Goals as goal

pub loop-node-preserved : goal.loop-node-preserved
loop-node-preserved g c =
    same-growth (sym (joined-numbers (node_value c.args.cluster.now) c.loop-node.node)) (grows-more c.loop-node.invariant (grows-more c.put_separator.ensures c.put_node.ensures))
