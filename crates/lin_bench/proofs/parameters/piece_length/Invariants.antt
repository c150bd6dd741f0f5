use Rattle.std.proofs.Common.{◌≡◌, ◌==◌, length, ◌-◌, ◌≤◌, false, take}
use Rattle.std.specs.List.{All}
use Rattle.lin_bench.proofs.parameters.piece_length.Given as goal

abbrev pub invariant-loop-n : goal.invariant-loop-n
invariant-loop-n l = record { within : l.n ≤ length l.text; clean : All (λ x. (x == 36) ≡ false) (take l.n l.text) }

abbrev pub decreases-loop-n : goal.decreases-loop-n
decreases-loop-n l = length l.text - l.n
