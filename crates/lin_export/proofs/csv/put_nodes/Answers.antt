use Rattle.std.proofs.Common.{ap}
use Rattle.lin_text.proofs.Growing.{grows-more, same-growth}
use Rattle.lin_export.specs.Csv.{marked_cell}
use Rattle.lin_export.proofs.Rows.{nodes-first}
use Rattle.lin_export.proofs.csv.put_nodes.Goals as goal

pub returns-in-len1-up : goal.returns-in-len1-up
returns-in-len1-up g c =
    same-growth (ap (marked_cell c.args.mark.now) (nodes-first c.args.cluster.now c.args.puts.now c.first-item.result c.in-len1-up.len_at_least c.first-item.is))
    (grows-more c.put.ensures (grows-more c.put_node.ensures c.put_more_nodes.ensures))
