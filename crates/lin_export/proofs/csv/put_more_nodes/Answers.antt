use Rattle.std.proofs.Common.{arith}
use Rattle.lin_text.proofs.Growing.{grows-next}
use Rattle.lin_export.specs.Csv.{spaced_name}
use Rattle.lin_export.proofs.csv.put_more_nodes.Goals as goal

pub loop-put-preserved : goal.loop-put-preserved
loop-put-preserved g c =
    grows-next (spaced_name c.args.cluster.now) c.args.puts.now c.loop-put.put-index c.put-item.result c.put-item.is (omega arith) c.loop-put.invariant c.put_spaced_node.ensures
