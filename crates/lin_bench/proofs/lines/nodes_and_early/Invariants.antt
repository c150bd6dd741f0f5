use Rattle.std.proofs.Common.{◌≡◌, length}
use Rattle.lin_bench.specs.Fields.{line_fields}
use Rattle.lin_bench.specs.Lines.{nodes_and_early, nodes_read}
use Rattle.lin_bench.proofs.Appending.{nodes_before}
use Rattle.lin_bench.proofs.lines.nodes_and_early.Given as goal

abbrev pub invariant-loop-field : goal.invariant-loop-field
invariant-loop-field l =
    nodes_before l.nodes.items (nodes_read l.cluster (nodes_and_early (line_fields l.left))) ≡ nodes_read l.cluster (nodes_and_early (line_fields l.line))

abbrev pub decreases-loop-field : goal.decreases-loop-field
decreases-loop-field l = length (line_fields l.left)
