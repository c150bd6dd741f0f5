use Rattle.std.proofs.Common.{◌≡◌, ◌∷◌, true, length, sym, ap, ◌∙◌, arith}
use Rattle.std.specs.Prelude.{nat_lt, option_map}
use Rattle.std.proofs.lemmas.Bool.Decides.{nat_tests}
use Rattle.lin_core.specs.History.{Slot, open_slot, time}
use Rattle.lin_export.specs.Open.{tracked_slot}
use Rattle.lin_export.specs.Track.{TrackData, finished_slot_count}
use Rattle.lin_export.specs.Vcd.{number_change, slot_changes, slot_groups, step_groups, written_change}
use Rattle.lin_export.specs.WhereTold.{given_coding}
use Rattle.lin_export.proofs.Groups.{finish-groups, groups-more, groups-one, same-groups, slot-shown, wake-groups, write-groups}
use Rattle.lin_export.proofs.Rows.{Shows, shows}
use Rattle.lin_export.proofs.vcd.put_step.Goals as goal

pub returns-then-signal-signals : goal.returns-then-signal-signals
returns-then-signal-signals g c = λ past is.
    let x = c.args.next.now.cluster.now in
    let e = c.args.next.now.entry.now in
    let track = c.args.next.now.track.now in
    let w = c.in-Write in
    let below : nat_lt w.signal (length x.signals) ≡ true = grind (arith, nat_tests, c.signals.ensures.number, c.if-signal-signals.true) in
    same-groups (sym (write-groups x (given_coding c.args.coded) past (time x (e ∷ past)) track.time w.by w.signal w.value e.step w.is below (ap (λ (d : TrackData). d.time) is)))
    (groups-one c.args.last.now c.put_stamp.new.last track.time (written_change x w.signal w.value)
    (rw c.time.ensures at c.put_stamp.ensures.text) (rw c.time.ensures at c.put_stamp.ensures.shown) c.put_written.ensures)

pub returns-in-Some : goal.returns-in-Some
returns-in-Some g c = λ past is.
    let x = c.args.next.now.cluster.now in
    let k = given_coding c.args.coded in
    let e = c.args.next.now.entry.now in
    let track = c.args.next.now.track.now in
    let end = c.time_behind-end.result in
    let t = tracked_slot c.in-Some.slot in
    let o : Shows (open_slot past) t = shows (open_slot past) t (ap (option_map tracked_slot) (sym c.in-Some.is) ∙ c.slot.ensures ∙ ap (λ (d : TrackData). d.slot) is) in
    same-groups
    (ap (λ (d : TrackData). slot_groups x k d.slots d.time end t) is
    ∙ ap (λ (u : Slot). slot_groups x k (finished_slot_count past) (time x past) end u) o.same
    ∙ slot-shown x k (finished_slot_count past) (time x past) end o.slot
    ∙ sym (finish-groups x k past end e.step o.slot c.in-Finish.is o.is_open)
    ∙ ap (λ n. step_groups x k past n e.step) (c.time_behind-end.ensures past is))
    (groups-more
    (groups-one c.args.last.now c.put_stamp-in-Some.new.last track.time (slot_changes track.slots t)
    (rw c.time-in-Some.ensures at c.put_stamp-in-Some.ensures.text) (rw c.time-in-Some.ensures at c.put_stamp-in-Some.ensures.shown)
    (rw c.slots.ensures at c.put_slot.ensures))
    c.put_heard_frame.ensures)

pub returns-in-Wake : goal.returns-in-Wake
returns-in-Wake g c = λ past is.
    let x = c.args.next.now.cluster.now in
    let e = c.args.next.now.entry.now in
    let track = c.args.next.now.track.now in
    same-groups (sym (wake-groups x (given_coding c.args.coded) past (time x (e ∷ past)) e.step track.time c.in-Wake.is (ap (λ (d : TrackData). d.time) is)))
    (groups-one c.args.last.now c.put_stamp-in-Wake.new.last track.time (number_change 1 5 0)
    (rw c.time-in-Wake.ensures at c.put_stamp-in-Wake.ensures.text) (rw c.time-in-Wake.ensures at c.put_stamp-in-Wake.ensures.shown) c.put_number.ensures)
