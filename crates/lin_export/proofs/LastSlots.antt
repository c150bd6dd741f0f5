-- The slot that ended last.
use Rattle.std.proofs.Common.{◌≡◌, ◌∙◌, List, Some, None, refl, sym, ap}
use Rattle.std.specs.Prelude.{Option, option_map}
use Rattle.std.specs.Option.{option_map_or}
use Rattle.lin_parts.specs.declared.parts.Parts.{Parts}
use Rattle.lin_core.specs.History.{Slot, open_slot}
use Rattle.lin_core.specs.declared.log.LogEntry.{LogEntry}
use Rattle.lin_log.specs.LastFinish.{before_last_finish}
use Rattle.lin_export.specs.LastSlot.{end_of_slot, ended_slot, last_slot, tracked_slot_end}
use Rattle.lin_export.specs.Track.{TrackData, shown_slot, track_of}

-- a track has the slot that is open after its history
ended-mapped : (t : TrackData) (o : Option Slot) → option_map (end_of_slot t) (option_map shown_slot o) ≡ option_map (λ (s : Slot). end_of_slot t (shown_slot s)) o
ended-mapped t None = refl
ended-mapped t (Some s) = refl

pub ended-tracked : (c : Parts) (past : List LogEntry) → tracked_slot_end (track_of c past) ≡ ended_slot c past
ended-tracked c past = ended-mapped (track_of c past) (open_slot past)

pub last-tracked : (c : Parts) (all past : List LogEntry) (t : TrackData) → before_last_finish all ≡ Some past → t ≡ track_of c past
    → tracked_slot_end t ≡ last_slot c all
last-tracked c all past t here is =
    ap tracked_slot_end is ∙ ended-tracked c past ∙ sym (ap (λ o. option_map_or (ended_slot c) o None) here)

pub none-last : (c : Parts) (all : List LogEntry) → before_last_finish all ≡ None → None ≡ last_slot c all
none-last c all none = sym (ap (λ o. option_map_or (ended_slot c) o None) none)
