use Rattle.std.proofs.Common.{◌≡◌, length}
use Rattle.lin_bench.specs.Fields.{line_fields}
use Rattle.lin_bench.specs.Lines.{node_fields}
use Rattle.lin_bench.proofs.Appending.{nodes_with}
use Rattle.lin_bench.proofs.lines.node_fields.Given as goal

abbrev pub invariant-loop-field : goal.invariant-loop-field
invariant-loop-field l = nodes_with l.nodes.items (node_fields l.cluster (line_fields l.left)) ≡ node_fields l.cluster (line_fields l.line)

abbrev pub decreases-loop-field : goal.decreases-loop-field
decreases-loop-field l = length (line_fields l.left)
