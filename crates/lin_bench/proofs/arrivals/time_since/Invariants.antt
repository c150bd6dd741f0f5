use Rattle.std.proofs.Common.{◌≡◌, ◌≤◌, ◌+◌, ◌*◌, reverse, take}
use Rattle.lin_bench.specs.Arrivals.{precedes, whole}
use Rattle.lin_bench.proofs.arrivals.time_since.Given as goal

abbrev pub invariant-loop-left : goal.invariant-loop-left
invariant-loop-left l = record {
  within : l.left ≤ l.index;
  time : l.walk.time + l.left * 1000000000 ≤ l.index * 1000000000;
  whole :
      whole l.cluster (precedes l.earlier) l.walk (reverse (take l.left l.log.entries))
      ≡ whole l.cluster (precedes l.earlier) l.initial.walk (reverse (take l.index l.log.entries));
}

abbrev pub decreases-loop-left : goal.decreases-loop-left
decreases-loop-left l = l.left
