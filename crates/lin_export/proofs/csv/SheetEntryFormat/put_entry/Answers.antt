use Rattle.std.proofs.Common.{◌∷◌, ◌++◌, List, ℕ, [], append_assoc, flat_map, length, sym, ap, ◌∙◌}
use Rattle.std.specs.Fmt.{decimal}
use Rattle.std.specs.Borrow.{Bor}
use Rattle.std.specs.Prelude.{Option, option_map}
use Rattle.std.specs.Option.{option_map_or}
use Rattle.lin_core.specs.History.{Slot, finished_slot, time}
use Rattle.lin_core.specs.Signals.{heard_value}
use Rattle.lin_frame.specs.Words.{numbers}
use Rattle.lin_text.proofs.Growing.{grows-more, same-growth}
use Rattle.lin_export.specs.Csv.{after_comma, signal_cells, slot_cells, slot_line}
use Rattle.lin_export.specs.Open.{tracked_slot}
use Rattle.lin_export.specs.Track.{TrackData, finished_slot_count}
use Rattle.lin_export.specs.WhereTold.{given_coding}
use Rattle.lin_export.specs.declared.tracked_slot.TrackedSlot.{TrackedSlot}
use Rattle.lin_export.proofs.Rows.{Shows, heard-finish, line-parts, line-shown, shows}
use Rattle.lin_export.proofs.csv.SheetEntryFormat.put_entry.Goals as goal

pub returns-in-Some-clause-keeps : goal.returns-in-Some-clause-keeps
returns-in-Some-clause-keeps g c = λ past is kept.
    let x = c.args.next.now.cluster.now in
    let t = tracked_slot c.in-Some.slot.now in
    let o : Shows (finished_slot c.args.next.now.entry.now past) t
    = shows (finished_slot c.args.next.now.entry.now past) t
    (ap (option_map (λ (s : Bor TrackedSlot). tracked_slot s.now)) (sym c.in-Some.is) ∙ c.finished.ensures past (ap (λ (d : TrackData). d.slot) is)) in
    λ s v at. c.hear_slot.ensures.heard (heard_value x past) kept s v at ∙ heard-finish x c.args.next.now.entry.now past o.slot t s o.is_open o.same

pub returns-in-Some-clause-text : goal.returns-in-Some-clause-text
returns-in-Some-clause-text g c = λ past is kept.
    let x = c.args.next.now.cluster.now in
    let e = c.args.next.now.entry.now in
    let t = tracked_slot c.in-Some.slot.now in
    let o : Shows (finished_slot e past) t
    = shows (finished_slot e past) t
    (ap (option_map (λ (s : Bor TrackedSlot). tracked_slot s.now)) (sym c.in-Some.is) ∙ c.finished.ensures past (ap (λ (d : TrackData). d.slot) is)) in
    let values = heard_value x (e ∷ past) in
    let k = given_coding c.args.self.now.coded in
    let d : TrackData = c.args.next.now.track.now in
    let cells : List (List ℕ) = slot_cells x d.time t in
    let signals : List (List ℕ) = flat_map (signal_cells k values) (numbers (length x.signals)) in
    let line : Slot → List ℕ = λ s. slot_line x k (finished_slot_count past) (time x past) s values in
    same-growth
    (ap (λ (d : TrackData). slot_line x k d.slots d.time t values) is ∙ ap line o.same ∙ line-shown x k (finished_slot_count past) (time x past) o.slot values
    ∙ ap (λ (f : Option Slot). option_map_or line f []) (sym o.is_open))
    (same-growth (append_assoc (decimal d.slots) (flat_map after_comma cells) (flat_map after_comma signals ++ 10 ∷ []) ∙ line-parts (decimal d.slots) cells signals)
    (grows-more c.put_first_cells.ensures
    (grows-more
    (c.put_values.ensures.text values (λ s v at.
    c.hear_slot.ensures.heard (heard_value x past) kept s v (rw c.as_slice.ensures.value at at) ∙ heard-finish x e past o.slot t s o.is_open o.same))
    c.put_byte.ensures)))
