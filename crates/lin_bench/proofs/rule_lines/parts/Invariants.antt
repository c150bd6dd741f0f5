use Rattle.std.proofs.Common.{◌≡◌, [], length}
use Rattle.lin_bench.specs.Parts.{fields_of}
use Rattle.lin_bench.specs.RuleLines.{all_parts, parts_field}
use Rattle.lin_bench.proofs.Rows.{behind}
use Rattle.lin_bench.proofs.rule_lines.parts.Given as goal

abbrev pub invariant-loop-field : goal.invariant-loop-field
invariant-loop-field l =
    behind [] (all_parts parts_field (fields_of l.all)) ≡ behind l.parts.items (all_parts parts_field (fields_of l.left))

abbrev pub decreases-loop-field : goal.decreases-loop-field
decreases-loop-field l = length (fields_of l.left)
