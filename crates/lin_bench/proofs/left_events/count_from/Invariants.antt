use Rattle.std.proofs.Common.{◌≡◌, ◌≤◌, ◌+◌, ◌*◌, length, take}
use Rattle.std.specs.Prelude.{count_by, flat_map}
use Rattle.lin_core.specs.History.{events}
use Rattle.lin_bench.specs.Verdicts.{is_of_kind}
use Rattle.lin_bench.proofs.left_events.count_from.Given as goal

abbrev pub invariant-loop-index : goal.invariant-loop-index
invariant-loop-index l = record {
  within : l.index ≤ length l.log.entries;
  count :
      count_by (is_of_kind l.kind) (flat_map events (take l.first l.log.entries)) + l.count
      ≡ count_by (is_of_kind l.kind) (flat_map events (take l.index l.log.entries));
  few : l.count ≤ 18446744073709551616 * l.index;
}
