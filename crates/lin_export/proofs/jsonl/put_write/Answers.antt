use Rattle.std.proofs.Common.{◌∷◌, [], codes}
use Rattle.lin_parts.specs.Cluster.{signal_of}
use Rattle.lin_export.specs.Json.{member, quoted_text}
use Rattle.lin_export.specs.Jsonl.{meant_members, node_text, signal_value, time_member}
use Rattle.lin_export.specs.WhereTold.{given_coding, where_told}
use Rattle.lin_export.proofs.Objects.{grows-object, puts-all, puts-more, puts-one}
use Rattle.lin_export.proofs.jsonl.put_write.Goals as goal

pub returns : goal.returns
returns g c =
    let x = c.args.cluster.now in
    let w = c.args.written in
    let v = w.value.now in
    let first = time_member c.args.at ∷ member (codes "node") (node_text x w.node) ∷ member (codes "signal") (quoted_text (signal_of x w.signal).name) ∷ [] in
    grows-object (codes "write") c.put_type.ensures
    (puts-more (puts-all first (rw (c.node_name.ensures, c.signal_name.ensures) at c.put_members.ensures))
    (puts-more (puts-one (member (codes "value") (signal_value v)) c.put_value_member.ensures)
    (puts-all (where_told (given_coding c.args.coded) (λ d. meant_members (codes "physical") d w.signal v)) c.put_meant.ensures)))
    c.put.ensures
