use Rattle.std.proofs.Common.{◌≡◌, ◌++◌, length, option_map}
use Rattle.lin_bench.specs.RuleLines.{hex_part, row_of_pairs}
use Rattle.lin_bench.proofs.rule_lines.add_hex.Given as goal

abbrev pub invariant-loop-left : goal.invariant-loop-left
invariant-loop-left l =
    option_map (λ more. l.fn.parts.items ++ more) (row_of_pairs hex_part l.signs) ≡ option_map (λ more. l.parts.items ++ more) (row_of_pairs hex_part l.left)

abbrev pub decreases-loop-left : goal.decreases-loop-left
decreases-loop-left l = length l.left
