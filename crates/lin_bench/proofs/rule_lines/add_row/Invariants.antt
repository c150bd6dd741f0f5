use Rattle.std.proofs.Common.{◌≡◌, ◌++◌, length, option_map}
use Rattle.lin_bench.specs.RuleLines.{pattern_byte, row_of_pairs}
use Rattle.lin_bench.proofs.rule_lines.add_row.Given as goal

abbrev pub invariant-loop-left : goal.invariant-loop-left
invariant-loop-left l =
    option_map (λ more. l.fn.bytes.items ++ more) (row_of_pairs pattern_byte l.signs) ≡ option_map (λ more. l.bytes.items ++ more) (row_of_pairs pattern_byte l.left)

abbrev pub decreases-loop-left : goal.decreases-loop-left
decreases-loop-left l = length l.left
