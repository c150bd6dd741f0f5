use Rattle.std.proofs.Common.{◌≡◌, codes, length, sym, arith}
use Rattle.lin_parts.specs.Cluster.{table_of}
use Rattle.lin_text.proofs.Growing.{grows-more, same-growth}
use Rattle.lin_export.specs.ClusterObject.{entry_object}
use Rattle.lin_export.proofs.Objects.{grows-list, joined-numbers}
use Rattle.lin_export.proofs.check_object.table_objects.put_entries.Goals as goal

pub loop-entry-preserved : goal.loop-entry-preserved
loop-entry-preserved g c =
    same-growth (sym (joined-numbers (entry_object c.args.cluster.now c.args.description.now c.args.table) c.loop-entry.entry)) (grows-more c.loop-entry.invariant (grows-more c.put_separator.ensures c.put_entry.ensures))

pub returns : goal.returns
returns g c =
    let all : c.loop-entry.entry ≡ length (table_of c.args.cluster.now c.args.table) = omega arith in
    grows-list (codes "entries") _ c.put_list.ensures (rw all at c.loop-entry.invariant) c.put_byte.ensures
