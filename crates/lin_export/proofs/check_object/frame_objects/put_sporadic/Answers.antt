use Rattle.std.specs.Prelude.{option_map, slice_get}
use Rattle.lin_parts.specs.Cluster.{sporadic_name, sporadic_of}
use Rattle.lin_export.specs.ClusterObject.{frames_member, name_member, place_member}
use Rattle.lin_export.specs.Jsonl.{number_member}
use Rattle.lin_export.proofs.Objects.{grows-values, puts-more, puts-one}
use Rattle.lin_export.proofs.check_object.frame_objects.put_sporadic.Goals as goal

pub returns : goal.returns
returns g c =
    let x = c.args.cluster.now in
    let k = c.args.sporadic in
    grows-values (number_member k) (rw c.from.ensures at c.put_numbered_first.ensures)
    (puts-more (puts-one (name_member (sporadic_name x k)) (rw c.sporadic_name.ensures at c.put_member.ensures))
    (puts-more (puts-one (frames_member x (sporadic_of x k)) (rw c.sporadic.ensures at c.put_members_of.ensures))
    (puts-one (place_member (option_map (λ y. y.name) (slice_get c.args.description.now.sporadic k))) (rw c.sporadic_declared.ensures at c.put_place.ensures))))
    c.put_byte.ensures
