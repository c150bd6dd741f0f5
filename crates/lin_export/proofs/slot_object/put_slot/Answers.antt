use Rattle.std.proofs.Common.{codes}
use Rattle.lin_core.specs.History.{seen_of}
use Rattle.lin_export.specs.Jsonl.{answers_member, due_member, hurt_member, message_member, response_members, schedule_members, signals_member, told_meanings}
use Rattle.lin_export.specs.Open.{tracked_slot}
use Rattle.lin_export.specs.WhereTold.{given_coding}
use Rattle.lin_export.proofs.Objects.{grows-object, puts-all, puts-more, puts-one}
use Rattle.lin_export.proofs.slot_object.put_slot.Goals as goal

pub returns : goal.returns
returns g c = λ count are.
    let x = c.args.cluster.now in
    let s = tracked_slot c.args.slot.now in
    let t = c.args.track.now in
    grows-object (codes "slot") c.put_type.ensures
    (puts-more (puts-all (schedule_members x t.slots t.time s) (rw (c.slots.ensures, c.time.ensures) at c.put_schedule.ensures))
    (puts-more (puts-one (due_member x s.due) (rw c.due.ensures at c.put_due.ensures))
    (puts-more (puts-one (answers_member x s.puts) (rw c.puts.ensures at c.put_answers.ensures))
    (puts-more (puts-one (hurt_member s.hurt t.hurt) (rw (c.hurt_member.ensures, c.is_hurt.ensures, c.hurt.ensures) at c.put_member.ensures))
    (puts-more (puts-all (response_members (seen_of s)) (rw c.look.ensures at c.put_response.ensures))
    (puts-more (puts-one (signals_member x s) c.put_signals.ensures)
    (puts-more (puts-one (message_member x count s) (c.put_message.ensures count are)) (puts-all (told_meanings x (given_coding c.args.coded) s) c.put_physical.ensures))))))))
    c.put.ensures
