use Rattle.std.proofs.Common.{◌∷◌, [], codes, subst, sym}
use Rattle.std.specs.Fmt.{decimal}
use Rattle.lin_core.specs.History.{time}
use Rattle.lin_export.specs.Json.{member}
use Rattle.lin_export.specs.Jsonl.{IsObjectTrackOf, ObjectTrackData, time_member}
use Rattle.lin_export.specs.Track.{finished_slot_count}
use Rattle.lin_export.proofs.Objects.{grows-object, puts-all, puts-more, puts-one}
use Rattle.lin_export.proofs.jsonl.ObjectTrack.put_end.Goals as goal

pub returns : goal.returns
returns g c = λ x past is.
    let n = c.args.counts in
    let was = subst (λ (t : ObjectTrackData). IsObjectTrackOf x past t) (sym c.self.view_is) is in
    let first = time_member (time x past) ∷ member (codes "slots") (decimal (finished_slot_count past)) ∷ [] in
    grows-object (codes "end") c.put_type.ensures
    (puts-more (puts-all first (rw (c.time.ensures, c.slots.ensures, was.track) at c.put_members.ensures))
    (puts-more (puts-one (member (codes "expected") (decimal n.expected)) c.put_count.ensures)
    (puts-more (puts-one (member (codes "unmet") (decimal n.unmet)) c.put_count-2.ensures)
    (puts-more (puts-one (member (codes "refused") (decimal n.refused)) c.put_count-3.ensures)
    (puts-more (puts-one (member (codes "lost") (decimal n.lost)) c.put_count-4.ensures)
    (puts-one (member (codes "waiting") (decimal n.waiting)) c.put_count-5.ensures))))))
    c.put.ensures
