use Rattle.std.proofs.Common.{◌∷◌, [], codes}
use Rattle.lin_export.specs.ClusterObject.{count_member}
use Rattle.lin_export.specs.Found.{found_data}
use Rattle.lin_export.specs.Json.{member, text_value}
use Rattle.lin_export.proofs.Objects.{grows-values, puts-all}
use Rattle.lin_text.proofs.Growing.{grows-more}
use Rattle.lin_export.proofs.check_object.put_header.Goals as goal

pub returns : goal.returns
returns g c =
    let f = found_data c.args.found.now in
    let x = f.cluster in
    let members =
    member (codes "language") (text_value f.language) ∷ count_member (codes "speed") x.speed ∷ count_member (codes "time_base_us") x.base_us
    ∷ count_member (codes "jitter_us") x.jitter_us ∷ [] in
    grows-values (member (codes "protocol") (text_value f.protocol)) (grows-more c.put.ensures c.put_text_value.ensures)
    (puts-all members
    (rw (c.from.ensures, c.from-2.ensures, c.from-3.ensures, c.speed.ensures.value, c.base_us.ensures.value, c.jitter_us.ensures.value) at c.put_members.ensures))
    c.put_byte.ensures
