use Rattle.std.proofs.Common.{◌∷◌, [], codes, map}
use Rattle.std.specs.Prelude.{option_map, slice_get}
use Rattle.lin_parts.specs.Cluster.{signal_of}
use Rattle.lin_parts.specs.Rules.{is_array}
use Rattle.lin_export.specs.CheckObject.{list_member}
use Rattle.lin_export.specs.ClusterObject.{count_member, encoding_value, name_member, place_member, subscribers, truth}
use Rattle.lin_export.specs.Json.{member, quoted_text}
use Rattle.lin_export.specs.Jsonl.{node_text, number_member, signal_value}
use Rattle.lin_export.specs.WhereTold.{given_coding}
use Rattle.lin_export.proofs.Objects.{grows-values, puts-all, puts-more, puts-one}
use Rattle.lin_export.proofs.check_object.signal_objects.put_signal.Goals as goal

pub returns : goal.returns
returns g c =
    let x = c.args.cluster.now in
    let d = c.args.description.now in
    let s = c.args.signal in
    let signal = signal_of x s in
    let first = name_member signal.name ∷ count_member (codes "bits") signal.size ∷ member (codes "array") (truth (is_array signal.initial)) ∷ [] in
    grows-values (number_member s) (rw c.from.ensures at c.put_numbered_first.ensures)
    (puts-more (puts-all first (rw (c.signal_name.ensures, c.from-2.ensures, c.signal_size.ensures, c.is_array.ensures, c.initial-initial.ensures) at c.put_members.ensures))
    (puts-more (puts-one (member (codes "initial") (signal_value signal.initial)) (rw c.initial-initial.ensures at c.put_initial.ensures))
    (puts-more (puts-one (member (codes "publisher") (node_text x signal.publisher)) (rw (c.node_name.ensures, c.publisher.ensures) at c.put_member.ensures))
    (puts-more (puts-one (list_member (codes "subscribers") (map (λ n. quoted_text n.text) (subscribers d s))) (rw c.subscribers.ensures at c.put_subscribers.ensures))
    (puts-more (puts-one (member (codes "encoding") (encoding_value (given_coding c.args.coded) s)) (rw c.encoding_member.ensures at c.put_member-2.ensures))
    (puts-one (place_member (option_map (λ x. x.name) (slice_get d.signals s))) (rw c.name_declared.ensures at c.put_place.ensures)))))))
    c.put_byte.ensures
