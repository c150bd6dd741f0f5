use Rattle.std.proofs.Common.{◌∷◌, [], codes}
use Rattle.lin_parts.specs.Cluster.{node_of}
use Rattle.lin_export.specs.ClusterObject.{name_member, node_declared, place_member}
use Rattle.lin_export.specs.Json.{member}
use Rattle.lin_export.specs.Jsonl.{nad_value, number_member}
use Rattle.lin_export.proofs.Objects.{grows-values, puts-all, puts-more, puts-one}
use Rattle.lin_export.proofs.check_object.node_objects.put_node.Goals as goal

pub returns : goal.returns
returns g c =
    let x = c.args.cluster.now in
    let n = c.args.node in
    let named = name_member (node_of x n).name ∷ member (codes "nad") (nad_value x n) ∷ [] in
    grows-values (number_member n) (rw c.from.ensures at c.put_numbered_first.ensures)
    (puts-more (puts-all named (rw (c.node_name.ensures, c.nad_member.ensures) at c.put_members.ensures))
    (puts-one (place_member (node_declared c.args.description.now n)) (rw c.node_declared.ensures at c.put_place.ensures)))
    c.put_byte.ensures
