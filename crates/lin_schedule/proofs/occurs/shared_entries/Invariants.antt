use Rattle.std.proofs.Common.{◌≡◌, ◌≤◌, take}
use Rattle.std.specs.Prelude.{count_by}
use Rattle.lin_parts.specs.Cluster.{table_of}
use Rattle.lin_parts.specs.declared.parts.Line.{Line}
use Rattle.lin_schedule.specs.Occurs.{is_shared}
use Rattle.lin_schedule.proofs.occurs.shared_entries.Given as goal

abbrev pub invariant-loop-entry : goal.invariant-loop-entry
invariant-loop-entry l = record {
  number : l.shared ≡ count_by (λ (x : Line). is_shared l.fn.cluster l.fn.frame x.entry) (take l.entry (table_of l.fn.cluster l.fn.table));
  few : l.shared ≤ l.entry;
}
