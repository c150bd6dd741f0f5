use Rattle.std.proofs.Common.{◌≡◌, ◌≤◌, ◌*◌, take}
use Rattle.std.specs.Prelude.{sum_by}
use Rattle.lin_parts.specs.Cluster.{table_of}
use Rattle.lin_parts.specs.declared.parts.Line.{Line}
use Rattle.lin_cluster.specs.SlotTimes.{slot_bytes}
use Rattle.lin_export.specs.ListedSlots.{nominal_bits}
use Rattle.lin_export.proofs.cluster_lists.slot_times.bits_of.Given as goal

abbrev pub invariant-loop-entry : goal.invariant-loop-entry
invariant-loop-entry l = record {
  sum : l.bits ≡ sum_by (λ (x : Line). nominal_bits (slot_bytes l.fn.cluster x.entry)) (take l.entry (table_of l.fn.cluster l.fn.table));
  few : l.bits ≤ 2594 * l.entry;
}
