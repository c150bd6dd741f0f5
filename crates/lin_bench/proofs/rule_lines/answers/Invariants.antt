use Rattle.std.proofs.Common.{◌≡◌, ◌++◌, length, Ok}
use Rattle.lin_bench.specs.Fields.{◌>>=◌}
use Rattle.lin_bench.specs.Parts.{fields_of}
use Rattle.lin_bench.specs.RuleLines.{answers_form}
use Rattle.lin_bench.proofs.rule_lines.answers.Given as goal

abbrev pub invariant-loop-end : goal.invariant-loop-end
invariant-loop-end l = answers_form (fields_of l.all) ≡ (answers_form (fields_of l.left) >>= (λ more. Ok (l.answers ++ more)))

abbrev pub decreases-loop-end : goal.decreases-loop-end
decreases-loop-end l = length (fields_of l.left)
