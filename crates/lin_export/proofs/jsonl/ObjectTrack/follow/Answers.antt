use Rattle.std.proofs.Common.{List, sym, ap, subst, ◌∙◌}
use Rattle.std.specs.Prelude.{slice_index}
use Rattle.lin_core.specs.declared.event.Event.{Event}
use Rattle.lin_export.specs.Jsonl.{IsObjectTrackOf, ObjectTrackData, settled_all}
use Rattle.lin_export.proofs.Objects.{settled-done}
use Rattle.lin_export.proofs.jsonl.ObjectTrack.follow.Goals as goal

pub returns-in-Done : goal.returns-in-Done
returns-in-Done c = λ past is.
    let e = c.args.entry.now in
    let es = c.in-Done.events in
    let was = subst (λ (t : ObjectTrackData). IsObjectTrackOf c.args.cluster.now past t) (sym c.self.view_is) is in
    record {
      track = c.in_ok-follow.ensures.kept past was.track;
      last = λ h few.
          c.settle_all.ensures h few ∙ ap (λ (l : List Event). settled_all h l (slice_index c.self.inside.last h)) c.as_slice.ensures
          ∙ ap (settled_all h es) (was.last h few) ∙ settled-done e past es h c.in-Done.is;
    }
