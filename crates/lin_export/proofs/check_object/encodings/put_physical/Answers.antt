use Rattle.std.proofs.Common.{◌∷◌, [], codes}
use Rattle.lin_export.specs.ClusterObject.{count_member, kind_member}
use Rattle.lin_export.specs.Json.{member, quoted_text, text_value}
use Rattle.lin_values.specs.Shown.{decimal_shown}
use Rattle.lin_export.proofs.Objects.{grows-values, puts-all, puts-more, puts-one}
use Rattle.lin_export.proofs.check_object.encodings.put_physical.Goals as goal

pub returns : goal.returns
returns g c =
    let values = count_member (codes "low") c.args.min ∷ count_member (codes "high") c.args.max ∷ [] in
    grows-values (kind_member (codes "physical")) c.put_first.ensures
    (puts-more (puts-all values c.put_members.ensures)
    (puts-more (puts-one (member (codes "scale") (quoted_text (decimal_shown c.args.scale.now))) c.put_coefficient.ensures)
    (puts-more (puts-one (member (codes "offset") (quoted_text (decimal_shown c.args.offset.now))) c.put_coefficient-2.ensures)
    (puts-one (member (codes "unit") (text_value c.args.unit.now)) c.put_member.ensures))))
    c.put_byte.ensures
