use Rattle.std.proofs.Common.{◌∷◌, [], codes}
use Rattle.std.specs.Borrow.{Bor}
use Rattle.std.specs.Prelude.{Option, option_map}
use Rattle.lin_parts.specs.Cluster.{signal_of}
use Rattle.lin_parts.specs.declared.description.Name.{Name}
use Rattle.lin_export.specs.ClusterObject.{count_member, place_member}
use Rattle.lin_export.specs.Json.{member, quoted_text}
use Rattle.lin_export.proofs.Objects.{grows-values, puts-all, puts-more, puts-one}
use Rattle.lin_export.proofs.check_object.frame_objects.put_placed.Goals as goal

pub returns : goal.returns
returns g c =
    let place = c.args.place.now in
    let declared : Option Name = option_map (λ (n : Bor Name). n.now) c.args.declared in
    let sizes = count_member (codes "offset") place.offset ∷ count_member (codes "bits") place.size ∷ [] in
    grows-values (member (codes "signal") (quoted_text (signal_of c.args.cluster.now c.args.signal).name)) (rw c.signal_name.ensures at c.put_first.ensures)
    (puts-more (puts-all sizes (rw (c.from.ensures, c.from-2.ensures) at c.put_members.ensures)) (puts-one (place_member declared) c.put_place.ensures))
    c.put_byte.ensures
