use Rattle.std.proofs.Common.{codes, map}
use Rattle.std.specs.Prelude.{Some}
use Rattle.lin_export.specs.CheckObject.{list_member}
use Rattle.lin_export.specs.ClusterObject.{item_object, name_member, place_member}
use Rattle.lin_export.proofs.Objects.{grows-list, grows-values, puts-more, puts-one}
use Rattle.lin_export.proofs.check_object.encodings.put_encoding.Goals as goal

pub returns : goal.returns
returns g c =
    let e = c.args.encoding.now in
    grows-values (name_member e.name.text) (rw c.as_slice.ensures at c.put_first.ensures)
    (puts-more
    (puts-one (list_member (codes "items") (map (λ p. item_object p.item) e.items))
    (grows-list (codes "items") _ c.put_list.ensures (rw c.as_slice-2.ensures at c.put_all_items.ensures) c.put_byte.ensures))
    (puts-one (place_member (Some e.name)) c.put_place.ensures))
    c.put_byte-2.ensures
