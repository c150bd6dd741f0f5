use Rattle.std.proofs.Common.{◌≡◌, ◌≤◌, drop}
use Rattle.lin_parts.specs.Cluster.{table_of}
use Rattle.lin_export.specs.ListedTiming.{tightest_of, tightest_slot}
use Rattle.lin_export.proofs.cluster_lists.timing.tightest_slot.Given as goal

abbrev pub invariant-loop-entry : goal.invariant-loop-entry
invariant-loop-entry l = record {
  slot : tightest_of l.cluster l.least (drop l.entry (table_of l.cluster l.table)) ≡ tightest_slot l.cluster l.table;
  delay : l.least.0 ≤ 1000000000;
  need : l.least.1 ≤ 5000000000;
}
