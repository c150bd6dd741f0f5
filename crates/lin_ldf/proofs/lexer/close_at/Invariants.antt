use Rattle.std.proofs.Common.{◌≡◌, ◌+◌, length}
use Rattle.lin_ldf.specs.Scanning.{close_at, option_shift}
use Rattle.lin_ldf.proofs.lexer.close_at.Given as goal

abbrev pub invariant-loop-n : goal.invariant-loop-n
invariant-loop-n l = record {
  found : option_shift l.passed (close_at l.rest) ≡ close_at l.text;
  passed : l.passed + length l.rest ≡ length l.text;
}

abbrev pub decreases-loop-n : goal.decreases-loop-n
decreases-loop-n l = length l.rest
