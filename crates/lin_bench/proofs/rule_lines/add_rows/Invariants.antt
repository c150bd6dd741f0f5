use Rattle.std.proofs.Common.{◌≡◌, length}
use Rattle.lin_bench.specs.Parts.{fields_of}
use Rattle.lin_bench.specs.RuleLines.{all_parts, pattern_byte, row_of_pairs}
use Rattle.lin_bench.proofs.Rows.{behind}
use Rattle.lin_bench.proofs.rule_lines.add_rows.Given as goal

abbrev pub invariant-loop-row : goal.invariant-loop-row
invariant-loop-row l =
    behind l.fn.bytes.items (all_parts (row_of_pairs pattern_byte) (fields_of l.rows))
    ≡ behind l.bytes.items (all_parts (row_of_pairs pattern_byte) (fields_of l.left))

abbrev pub decreases-loop-row : goal.decreases-loop-row
decreases-loop-row l = length (fields_of l.left)
