use Rattle.std.proofs.Common.{sym, ap, ◌∙◌, [], nat_lt, if◌then◌else◌, List, ℕ}
use Rattle.std.specs.Borrow.{Bor}
use Rattle.std.specs.Prelude.{Option, option_map}
use Rattle.std.specs.Option.{option_map_or}
use Rattle.lin_core.specs.History.{Slot, finished_slot, time}
use Rattle.lin_text.proofs.Growing.{same-growth}
use Rattle.lin_export.specs.FirstSlots.{first_slot_row}
use Rattle.lin_export.specs.Open.{tracked_slot}
use Rattle.lin_export.specs.Track.{TrackData, finished_slot_count}
use Rattle.lin_export.specs.declared.tracked_slot.TrackedSlot.{TrackedSlot}
use Rattle.lin_export.proofs.Rows.{Shows, row-shown, shows}
use Rattle.lin_export.proofs.first_slots.FirstSlotsEntryFormat.put_entry.Goals as goal

pub returns-in-Some-clause-text : goal.returns-in-Some-clause-text
returns-in-Some-clause-text g c = λ past is kept.
    let x = c.args.next.now.cluster.now in
    let e = c.args.next.now.entry.now in
    let t = tracked_slot c.in-Some.slot.now in
    let o : Shows (finished_slot e past) t
    = shows (finished_slot e past) t
    (ap (option_map (λ (s : Bor TrackedSlot). tracked_slot s.now)) (sym c.in-Some.is) ∙ c.finished.ensures past (ap (λ (d : TrackData). d.slot) is)) in
    let first : List ℕ → List ℕ = λ l. if nat_lt (finished_slot_count past) 200 then l else [] in
    let row : Slot → List ℕ = first_slot_row x (finished_slot_count past) (time x past) in
    same-growth
    (ap (λ (d : TrackData). first_slot_row x d.slots d.time t) is
    ∙ ap row o.same ∙ ap first (row-shown x (finished_slot_count past) (time x past) o.slot)
    ∙ ap (λ (f : Option Slot). option_map_or row f []) (sym o.is_open))
    c.put_first.ensures
