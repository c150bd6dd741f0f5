use Rattle.std.proofs.Common.{◌≡◌, ◌≤◌, length, reverse, take}
use Rattle.std.specs.Prelude.{find, flat_map}
use Rattle.lin_core.specs.History.{events}
use Rattle.lin_bench.specs.Verdicts.{is_of_kind}
use Rattle.lin_bench.proofs.taken.last_event.Given as goal

abbrev pub invariant-loop-left : goal.invariant-loop-left
invariant-loop-left l = record {
  within : l.left ≤ length l.log.entries;
  same : find (is_of_kind l.kind) (reverse (flat_map events l.log.entries)) ≡ find (is_of_kind l.kind) (reverse (flat_map events (take l.left l.log.entries)));
}

abbrev pub decreases-loop-left : goal.decreases-loop-left
decreases-loop-left l = l.left
