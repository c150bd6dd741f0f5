use Rattle.std.proofs.Common.{◌≡◌, ◌≤◌, ◌+◌, ◌*◌, take}
use Rattle.std.specs.Prelude.{count_by, flat_map}
use Rattle.lin_core.specs.History.{events}
use Rattle.lin_bench.specs.Verdicts.{is_of_kind}
use Rattle.lin_bench.proofs.left_events.count_before.Given as goal

abbrev pub invariant-loop-index : goal.invariant-loop-index
invariant-loop-index l = record {
  count : l.count ≡ count_by (is_of_kind l.kind) (flat_map events (take l.index l.log.entries)) + l.fn.place.events;
  few : l.count ≤ 18446744073709551616 * (l.index + 1);
}
