use Rattle.std.proofs.Common.{◌≤◌, ◌*◌, ◌+◌, length, drop}
use Rattle.lin_parts.specs.Cluster.{table_of}
use Rattle.lin_schedule.specs.Spacing.{HasItsOwn, IsStretch}
use Rattle.lin_schedule.proofs.spacing.Stretch.of.Given as goal

abbrev pub invariant-loop-entry : goal.invariant-loop-entry
invariant-loop-entry l = record {
  few : l.stretch.total + 1000000000 * l.entry ≤ 1000000000 * length (table_of l.cluster l.table);
  own : HasItsOwn l.stretch;
  is : IsStretch l.frame (drop l.entry (table_of l.cluster l.table)) l.stretch.total l.stretch.own;
}
