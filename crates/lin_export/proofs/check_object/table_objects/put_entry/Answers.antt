use Rattle.std.proofs.Common.{◌∷◌, [], codes, flat_map, rules}
use Rattle.lin_parts.specs.Cluster.{entry_kind, entry_name, line_of}
use Rattle.lin_cluster.specs.SlotTimes.{slot_bytes, slot_need}
use Rattle.lin_text.specs.Written.{Grows}
use Rattle.lin_export.specs.ClusterObject.{count_member, entry_declared, kind_member, name_member, place_member}
use Rattle.lin_export.specs.Csv.{after_comma}
use Rattle.lin_export.specs.Json.{member}
use Rattle.lin_export.specs.ListedSlots.{slack}
use Rattle.lin_export.proofs.Objects.{grows-member, grows-values, puts-all, puts-more, puts-one}
use Rattle.lin_export.proofs.check_object.table_objects.put_entry.Goals as goal

pub returns : goal.returns
returns g c =
    let x = c.args.cluster.now in
    let t = c.args.table in
    let i = c.args.number in
    let entry = (line_of x t i).entry in
    let delay = (line_of x t i).delay_us in
    let need = slot_need x entry in
    let middle =
    kind_member (entry_kind entry) ∷ count_member (codes "bytes") (slot_bytes x entry) ∷ count_member (codes "delay_us") delay
    ∷ count_member (codes "needed_us") need ∷ [] in
    let first : Grows g.W.Write.contents c.args.out.now c.put_first.new.out (123 ∷ name_member (entry_name x entry)) = search rules in
    let members : Grows g.W.Write.contents c.put_first.new.out c.put_members.new.out (flat_map after_comma middle) = search rules in
    let left : Grows g.W.Write.contents c.put_key.new.out c.put_slack.new.out (slack delay need) = search rules in
    grows-values (name_member (entry_name x entry)) first
    (puts-more (puts-all middle members)
    (puts-more (puts-one (member (codes "slack_us") (slack delay need)) (grows-member (codes "slack_us") c.put_key.ensures left))
    (puts-one (place_member (entry_declared c.args.description.now t i)) (rw c.entry_declared.ensures at c.put_place.ensures))))
    c.put_byte.ensures
