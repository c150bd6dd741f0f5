use Rattle.std.proofs.Common.{◌≤◌, ◌+◌, length, ◌/◌}
use Rattle.std.specs.Prelude.{min}
use Rattle.lin_values.specs.Meaning.{fours}
use Rattle.lin_values.proofs.Digits.{DigitsSoFar}
use Rattle.lin_values.proofs.meaning.digits_of_scalar.Given as goal

abbrev pub invariant-loop-left : goal.invariant-loop-left
invariant-loop-left l = record {
  few : length l.digits.items + l.left ≤ 4;
  so_far : DigitsSoFar (fours ((min l.bits 16 + 3) / 4) l.raw) l.digits.items (fours l.left l.raw);
}

abbrev pub decreases-loop-left : goal.decreases-loop-left
decreases-loop-left l = l.left
