use Rattle.std.proofs.Common.{◌≡◌, length}
use Rattle.lin_bench.specs.Fields.{line_fields}
use Rattle.lin_bench.specs.OnLines.{after_do}
use Rattle.lin_bench.proofs.on_lines.after_do.Given as goal

abbrev pub invariant-loop-word : goal.invariant-loop-word
invariant-loop-word l = after_do (line_fields l.left) ≡ after_do (line_fields l.line)

abbrev pub decreases-loop-word : goal.decreases-loop-word
decreases-loop-word l = length (line_fields l.left)
