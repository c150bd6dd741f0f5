use Rattle.std.proofs.Common.{◌%◌, ◌∷◌, [], codes}
use Rattle.std.specs.Prelude.{option_map, slice_get}
use Rattle.lin_parts.specs.Cluster.{frame_name, frame_of}
use Rattle.lin_export.specs.CheckObject.{list_member}
use Rattle.lin_export.specs.ClusterObject.{count_member, name_member, numbered_values, place_member, placed_object}
use Rattle.lin_export.specs.Json.{member, quoted_text}
use Rattle.lin_export.specs.Jsonl.{node_text, number_member}
use Rattle.lin_export.specs.ListedFrames.{model_word, places}
use Rattle.lin_export.proofs.Objects.{grows-values, puts-all, puts-more, puts-one}
use Rattle.lin_export.proofs.check_object.frame_objects.put_frame.Goals as goal

pub returns : goal.returns
returns g c =
    let x = c.args.cluster.now in
    let d = c.args.description.now in
    let f = c.args.frame in
    let frame = frame_of x f in
    let first =
    name_member (frame_name x f) ∷ count_member (codes "id") (frame.pid % 64) ∷ count_member (codes "pid") frame.pid ∷ count_member (codes "bytes") frame.layout.len
    ∷ member (codes "publisher") (node_text x frame.publisher) ∷ member (codes "model") (quoted_text (model_word frame.model)) ∷ [] in
    grows-values (number_member f) (rw c.from.ensures at c.put_numbered_first.ensures)
    (puts-more
    (puts-all first
    (rw (c.frame_name.ensures, c.from-2.ensures, c.from-3.ensures, c.from-4.ensures, c.frame_pid-pid.ensures, c.layout.ensures, c.node_name.ensures, c.frame_publisher.ensures, c.model_word.ensures, c.model.ensures) at c.put_members.ensures))
    (puts-more (puts-one (list_member (codes "places") (numbered_values (placed_object x d f) 0 (places frame))) c.put_places.ensures)
    (puts-one (place_member (option_map (λ y. y.name) (slice_get d.frames f))) (rw c.frame_declared.ensures at c.put_place.ensures))))
    c.put_byte.ensures
