use Rattle.std.proofs.Common.{◌≡◌, ◌-◌, ◌≤◌, drop, length}
use Rattle.std.specs.Cmp.Lexicographic.{slice_cmp}
use Rattle.std.specs.Ordering.{nat_cmp}
use Rattle.lin_bench.specs.Rules.{ranks}
use Rattle.lin_bench.proofs.answers.is_below_pattern.Given as goal

abbrev pub invariant-loop-place : goal.invariant-loop-place
invariant-loop-place l = record {
  within : l.place ≤ length l.pattern.bytes;
  other : l.place ≤ length l.other.bytes;
  same : slice_cmp nat_cmp (ranks l.pattern) (ranks l.other) ≡ slice_cmp nat_cmp (drop l.place (ranks l.pattern)) (drop l.place (ranks l.other));
}

abbrev pub decreases-loop-place : goal.decreases-loop-place
decreases-loop-place l = length l.pattern.bytes - l.place
