use Rattle.std.proofs.Common.{◌∷◌, [], codes, length, map}
use Rattle.std.specs.Prelude.{option_map, slice_get}
use Rattle.lin_frame.specs.Words.{numbers}
use Rattle.lin_parts.specs.Cluster.{named_table, table_of}
use Rattle.lin_export.specs.CheckObject.{list_member}
use Rattle.lin_export.specs.ClusterObject.{count_member, entry_object, name_member, place_member}
use Rattle.lin_export.specs.Jsonl.{number_member}
use Rattle.lin_export.specs.ListedSlots.{bits_of, delay_of, permille}
use Rattle.lin_export.proofs.Objects.{grows-values, puts-all, puts-more, puts-one}
use Rattle.lin_export.proofs.check_object.table_objects.put_table.Goals as goal

pub returns : goal.returns
returns g c =
    let x = c.args.cluster.now in
    let d = c.args.description.now in
    let t = c.args.table in
    let first =
    name_member (named_table x t).name ∷ count_member (codes "cycle_us") (delay_of x t) ∷ count_member (codes "load") (permille (bits_of x t) x.speed (delay_of x t)) ∷ [] in
    grows-values (number_member t) (rw c.from.ensures at c.put_numbered_first.ensures)
    (puts-more
    (puts-all first (rw (c.table_name.ensures, c.permille.ensures, c.bits_of-bits.ensures.value, c.speed.ensures.value, c.delay_of-delay.ensures.value) at c.put_members.ensures))
    (puts-more (puts-one (place_member (option_map (λ y. y.name) (slice_get d.tables t))) (rw c.table_declared.ensures at c.put_place.ensures))
    (puts-one (list_member (codes "entries") (map (entry_object x d t) (numbers (length (table_of x t))))) c.put_entries.ensures)))
    c.put_byte.ensures
