use Rattle.std.proofs.Common.{◌∷◌, [], codes}
use Rattle.std.specs.Fmt.{decimal}
use Rattle.lin_export.specs.Json.{member}
use Rattle.lin_export.specs.Jsonl.{bytes_member, node_text, time_member}
use Rattle.lin_export.proofs.Objects.{grows-object, puts-all, puts-more, puts-one}
use Rattle.lin_export.proofs.jsonl.put_arrived.Goals as goal

pub returns : goal.returns
returns g c =
    let x = c.args.cluster.now in
    grows-object (codes "message") c.put_type.ensures
    (puts-more
    (puts-all
    (time_member c.args.moment.at ∷ member (codes "slot") (decimal c.args.moment.slot) ∷ member (codes "from") (node_text x c.args.from) ∷ member (codes "to") (node_text x c.args.to) ∷ [])
    (rw (c.node_name.ensures, c.node_name-2.ensures) at c.put_members.ensures))
    (puts-one (bytes_member c.args.bytes.now) c.put_member.ensures))
    c.put.ensures
