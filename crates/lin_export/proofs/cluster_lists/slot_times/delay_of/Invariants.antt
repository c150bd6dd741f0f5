use Rattle.std.proofs.Common.{◌≡◌, ◌≤◌, ◌*◌, take}
use Rattle.std.specs.Prelude.{sum_by}
use Rattle.lin_parts.specs.Cluster.{table_of}
use Rattle.lin_parts.specs.declared.parts.Line.{Line}
use Rattle.lin_export.proofs.cluster_lists.slot_times.delay_of.Given as goal

abbrev pub invariant-loop-entry : goal.invariant-loop-entry
invariant-loop-entry l = record {
  sum : l.delay ≡ sum_by (λ (x : Line). x.delay_us) (take l.entry (table_of l.fn.cluster l.fn.table));
  few : l.delay ≤ 1000000000 * l.entry;
}
