use Rattle.std.proofs.Common.{◌∷◌, [], codes}
use Rattle.std.specs.Option.{option_map_or}
use Rattle.lin_export.specs.CheckObject.{count_or_null, place_members}
use Rattle.lin_export.specs.ClusterObject.{kind_member}
use Rattle.lin_export.specs.Found.{place_data}
use Rattle.lin_export.specs.Json.{escaped_text, member, null, quoted_text}
use Rattle.lin_export.proofs.Objects.{grows-values, puts-all, puts-more, puts-one}
use Rattle.lin_export.proofs.check_object.problems.put_problem.Goals as goal

pub returns : goal.returns
returns g c =
    let p = c.args.problem.now in
    let first =
    member (codes "number") (count_or_null p.number) ∷ member (codes "name") (quoted_text p.name.now) ∷ member (codes "needed_us") (count_or_null p.needed_us) ∷ [] in
    let token = member (codes "token") (option_map_or escaped_text p.token null) in
    grows-values (kind_member p.kind.now) (rw c.as_bytes.ensures.value at c.put_first.ensures)
    (puts-more (puts-all first (rw (c.number_member.ensures, c.as_bytes-2.ensures.value, c.needed_member.ensures) at c.put_members.ensures))
    (puts-more (puts-all (place_members (place_data p.place)) c.put_place.ensures)
    (puts-one token (rw c.token_member.ensures at c.put_member.ensures))))
    c.put_byte.ensures
