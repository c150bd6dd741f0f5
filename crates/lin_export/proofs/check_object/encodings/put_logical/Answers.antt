use Rattle.std.proofs.Common.{◌∷◌, [], codes}
use Rattle.lin_export.specs.ClusterObject.{count_member, kind_member}
use Rattle.lin_export.specs.Json.{member, text_value}
use Rattle.lin_export.proofs.Objects.{grows-values, puts-all}
use Rattle.lin_export.proofs.check_object.encodings.put_logical.Goals as goal

pub returns : goal.returns
returns g c =
    let members = count_member (codes "value") c.args.value ∷ member (codes "text") (text_value c.args.text.now) ∷ [] in
    grows-values (kind_member (codes "logical")) c.put_first.ensures (puts-all members c.put_members.ensures) c.put_byte.ensures
