use Rattle.std.proofs.Common.{◌≡◌, ◌<◌, ◌==◌, length}
use Rattle.std.specs.Prelude.{nat_lt}
use Rattle.std.specs.List.{list_any}
use Rattle.lin_log.specs.Judged.{left_length}
use Rattle.lin_bench.specs.Replacing.{pieces_left}
use Rattle.lin_bench.specs.Resolved.{first_name, names_parameter}
use Rattle.lin_bench.proofs.parameters.names_parameter.Given as goal

-- no piece so far begins with a name
abbrev pub invariant-loop-left : goal.invariant-loop-left
invariant-loop-left l = list_any (λ p. nat_lt 0 (length (first_name p))) (pieces_left l.left) ≡ names_parameter l.field

abbrev pub decreases-loop-left : goal.decreases-loop-left
decreases-loop-left l = left_length l.left
