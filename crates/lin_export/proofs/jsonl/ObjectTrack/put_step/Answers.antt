use Rattle.std.proofs.Common.{sym, ap, subst, ◌∙◌}
use Rattle.std.specs.Prelude.{option_map}
use Rattle.lin_core.specs.History.{open_slot}
use Rattle.lin_text.proofs.Growing.{same-growth}
use Rattle.lin_export.specs.Jsonl.{IsObjectTrackOf, ObjectTrackData, settled_count, slot_line}
use Rattle.lin_export.specs.Open.{tracked_slot}
use Rattle.lin_export.specs.Track.{TrackData}
use Rattle.lin_export.specs.WhereTold.{given_coding}
use Rattle.lin_export.proofs.Objects.{finish-object, wake-object, write-object}
use Rattle.lin_export.proofs.Rows.{Shows, shows}
use Rattle.lin_export.proofs.jsonl.ObjectTrack.put_step.Goals as goal

pub returns-in-Some : goal.returns-in-Some
returns-in-Some g c = λ past is.
    let x = c.args.cluster.now in
    let k = given_coding c.args.coded in
    let was = subst (λ (t : ObjectTrackData). IsObjectTrackOf x past t) (sym c.self.view_is) is in
    let t = tracked_slot c.in-Some.slot in
    let o : Shows (open_slot past) t = shows (open_slot past) t (ap (option_map tracked_slot) (sym c.in-Some.is) ∙ c.slot.ensures ∙ ap (λ (d : TrackData). d.slot) was.track) in
    same-growth (ap (λ (d : TrackData). slot_line x k d (settled_count past) t) was.track ∙ finish-object x k past c.args.step.now t o c.in-Finish.is)
    (c.put_slot.ensures (settled_count past) was.last)

pub returns-in-Wake : goal.returns-in-Wake
returns-in-Wake g c = λ past is.
    let x = c.args.cluster.now in
    let was = subst (λ (t : ObjectTrackData). IsObjectTrackOf x past t) (sym c.self.view_is) is in
    same-growth (wake-object x (given_coding c.args.coded) past c.args.step.now c.time-in-Wake.result (c.time-in-Wake.ensures ∙ ap (λ (d : TrackData). d.time) was.track) c.in-Wake.is)
    c.put_object_line.ensures

pub returns-in-Write : goal.returns-in-Write
returns-in-Write g c = λ past is.
    let x = c.args.cluster.now in
    let was = subst (λ (t : ObjectTrackData). IsObjectTrackOf x past t) (sym c.self.view_is) is in
    same-growth (write-object x (given_coding c.args.coded) past c.args.step.now c.time.result _ _ _ (c.time.ensures ∙ ap (λ (d : TrackData). d.time) was.track) c.in-Write.is)
    c.put_write.ensures
