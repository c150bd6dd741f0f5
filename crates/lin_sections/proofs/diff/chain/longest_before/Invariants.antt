use Rattle.std.proofs.Common.{◌≡◌, ◌≤◌, drop, length}
use Rattle.lin_sections.specs.Moved.{longest_before}
use Rattle.lin_sections.proofs.diff.chain.longest_before.Given as goal

abbrev pub invariant-loop-left : goal.invariant-loop-left
invariant-loop-left l = record {
  value : l.longest ≡ longest_before l.place (drop l.left l.places) (drop l.left l.lengths);
  within : l.left ≤ length l.lengths;
  few : l.longest ≤ l.most;
}

abbrev pub decreases-loop-left : goal.decreases-loop-left
decreases-loop-left l = l.left
