use Rattle.std.proofs.Common.{◌≡◌, ◌≤◌, length, reverse, take}
use Rattle.lin_log.specs.LastFinish.{before_last_finish}
use Rattle.lin_log.proofs.slot_ends.last_finish.Given as goal

abbrev pub invariant-loop-left : goal.invariant-loop-left
invariant-loop-left l = record {
  within : l.left ≤ length l.log.entries;
  same : before_last_finish (reverse l.log.entries) ≡ before_last_finish (reverse (take l.left l.log.entries));
}

abbrev pub decreases-loop-left : goal.decreases-loop-left
decreases-loop-left l = l.left
