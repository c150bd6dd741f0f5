use Rattle.std.proofs.Common.{◌%◌, ◌∷◌, [], codes}
use Rattle.std.specs.Prelude.{option_map, slice_get}
use Rattle.lin_parts.specs.Cluster.{event_name, event_of, named_table}
use Rattle.lin_export.specs.ClusterObject.{count_member, frames_member, name_member, place_member}
use Rattle.lin_export.specs.Json.{member, quoted_text}
use Rattle.lin_export.specs.Jsonl.{number_member}
use Rattle.lin_export.proofs.Objects.{grows-values, puts-all, puts-more, puts-one}
use Rattle.lin_export.proofs.check_object.frame_objects.put_event.Goals as goal

pub returns : goal.returns
returns g c =
    let x = c.args.cluster.now in
    let e = c.args.event in
    let event = event_of x e in
    let first =
    name_member (event_name x e) ∷ count_member (codes "id") (event.pid % 64) ∷ count_member (codes "pid") event.pid
    ∷ member (codes "table") (quoted_text (named_table x event.table).name) ∷ [] in
    grows-values (number_member e) (rw c.from.ensures at c.put_numbered_first.ensures)
    (puts-more
    (puts-all first (rw (c.event_name.ensures, c.from-2.ensures, c.from-3.ensures, c.event_pid-pid.ensures, c.table_name.ensures, c.event_table.ensures) at c.put_members.ensures))
    (puts-more (puts-one (frames_member x event.frames) (rw c.event_frames.ensures at c.put_members_of.ensures))
    (puts-one (place_member (option_map (λ y. y.name) (slice_get c.args.description.now.events e))) (rw c.event_declared.ensures at c.put_place.ensures))))
    c.put_byte.ensures
