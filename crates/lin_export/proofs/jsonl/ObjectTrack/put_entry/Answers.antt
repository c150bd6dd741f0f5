use Rattle.std.proofs.Common.{sym, ap, subst}
use Rattle.lin_core.specs.declared.reply.Reply.{Reply}
use Rattle.lin_text.proofs.Growing.{grows-more, same-growth}
use Rattle.lin_export.specs.Jsonl.{IsObjectTrackOf, ObjectTrackData, reply_objects}
use Rattle.lin_export.specs.WhereTold.{given_coding}
use Rattle.lin_export.proofs.jsonl.ObjectTrack.put_entry.Goals as goal

pub returns-in-Done : goal.returns-in-Done
returns-in-Done g c = λ past is.
    let x = c.args.cluster.now in
    let e = c.args.entry.now in
    let was = subst (λ (t : ObjectTrackData). IsObjectTrackOf x past t) (sym c.self.view_is) is in
    same-growth (ap (λ (r : Reply). reply_objects x (given_coding c.args.coded) e past r) (sym c.in-Done.is))
    (grows-more (c.put_step.ensures past is)
    (rw (c.slots.ensures, was.track, c.time_behind.ensures past was.track, c.as_slice.ensures) at c.put_events.ensures))

pub returns-in-Refused : goal.returns-in-Refused
returns-in-Refused g c = λ past is.
    let x = c.args.cluster.now in
    let e = c.args.entry.now in
    let was = subst (λ (t : ObjectTrackData). IsObjectTrackOf x past t) (sym c.self.view_is) is in
    same-growth (ap (λ (r : Reply). reply_objects x (given_coding c.args.coded) e past r) (sym c.in-Refused.is))
    (rw (c.time.ensures, was.track) at c.put_refused.ensures)
