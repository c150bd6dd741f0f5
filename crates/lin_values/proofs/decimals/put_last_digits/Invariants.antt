use Rattle.std.proofs.Common.{◌≡◌, ◌^◌, ◌<◌, ◌≤◌, ◌++◌, ℕ, List}
use Rattle.lin_text.specs.Written.{Grows}
use Rattle.lin_values.specs.Shown.{last_digits}
use Rattle.lin_values.proofs.decimals.put_last_digits.Given as goal

abbrev pub invariant-loop-left : goal.invariant-loop-left
invariant-loop-left g l = record {
  put : (some : List ℕ) × Grows g.W.Write.contents l.initial.out l.out some × (last_digits l.count l.number ≡ some ++ last_digits l.left l.rest);
  few : l.left ≤ 24;
  fits : l.rest < 10 ^ l.left;
}

abbrev pub decreases-loop-left : goal.decreases-loop-left
decreases-loop-left g l = l.left
