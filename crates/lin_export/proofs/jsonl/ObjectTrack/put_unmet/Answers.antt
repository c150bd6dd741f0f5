use Rattle.std.proofs.Common.{subst, sym}
use Rattle.lin_export.specs.Jsonl.{IsObjectTrackOf, ObjectTrackData}
use Rattle.lin_export.proofs.jsonl.ObjectTrack.put_unmet.Goals as goal

pub returns : goal.returns
returns g c = λ x past is.
    let was = subst (λ (t : ObjectTrackData). IsObjectTrackOf x past t) (sym c.self.view_is) is in
    rw (c.slot_member.ensures, c.test_member.ensures, c.time.ensures, is.track, was.track) at c.put_object_line.ensures
