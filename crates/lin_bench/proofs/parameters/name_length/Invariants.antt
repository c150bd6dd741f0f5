use Rattle.std.proofs.Common.{◌≡◌, length, ◌-◌, ◌≤◌, true, take}
use Rattle.std.specs.List.{All}
use Rattle.lin_bench.specs.RuleLines.{is_name_sign}
use Rattle.lin_bench.proofs.parameters.name_length.Given as goal

abbrev pub invariant-loop-n : goal.invariant-loop-n
invariant-loop-n l = record { within : l.n ≤ length l.text; clean : All (λ x. is_name_sign x ≡ true) (take l.n l.text) }

abbrev pub decreases-loop-n : goal.decreases-loop-n
decreases-loop-n l = length l.text - l.n
