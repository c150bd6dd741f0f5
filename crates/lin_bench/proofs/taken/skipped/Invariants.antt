use Rattle.std.proofs.Common.{◌≡◌, ◌≤◌, ◌+◌, count_by, take}
use Rattle.lin_bench.specs.Verdicts.{is_of_kind}
use Rattle.lin_bench.proofs.taken.skipped.Given as goal

abbrev pub invariant-loop-event : goal.invariant-loop-event
invariant-loop-event l = record {
  passed : count_by (is_of_kind l.kind) (take l.event-index l.events) + l.left ≡ l.skip;
  few : l.skip ≤ l.event-index + l.left;
}
