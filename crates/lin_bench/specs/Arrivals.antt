-- What a walk back over a log finds out, from an entry to the last earlier message before it.
use Rattle.std.specs.Prelude.{ℕ, ◌+◌, ◌-◌, Bool, if◌then◌else◌, true, false, List, [], ◌∷◌, option_map}
use Rattle.std.specs.Prelude.{Option, Some, None}
use Rattle.std.specs.Option.{unwrap_or}
use Rattle.lin_parts.specs.Cluster.{line_of}
use Rattle.lin_parts.specs.declared.parts.Parts.{Parts}
use Rattle.lin_core.specs.History.{Slot, open_slot, time}
use Rattle.lin_core.specs.declared.event.Event.{Event}
use Rattle.lin_core.specs.declared.log.LogEntry.{LogEntry}
use Rattle.lin_bench.specs.Verdicts.{is_earlier, last_time}
use Rattle.lin_bench.specs.declared.arrivals.EarlierMessages.{EarlierMessages}
use Rattle.lin_bench.specs.declared.arrivals.Walk.{Walk}

-- the earlier messages as code has them
abbrev pub precedes : EarlierMessages → Event → Bool
precedes w event = is_earlier w.since w.from w.to event

-- the table and the entry of a slot
abbrev pub entry_place : Slot → ℕ × ℕ
entry_place s = (s.table, s.entry)

-- the delay of a slot whose table and entry later events may have told
abbrev pub delay_told : Parts → Option (ℕ × ℕ) → Option Slot → ℕ
delay_told c told None = 0
delay_told c told (Some s) =
    let at = unwrap_or told (entry_place s) in (line_of c at.0 at.1).delay_us

-- the time since the last of such events of a history
abbrev pub time_since : Parts → (Event → Bool) → List LogEntry → ℕ
time_since c is past = time c past - last_time c is past

-- what a walk still finds in a history: the slot of which it has seen the finish, and the time since
-- the last of such events, where it hasn't met that
abbrev pub slot_left : Parts → Walk → List LogEntry → ℕ
slot_left c w past = if w.finishes then delay_told c w.told (open_slot past) else 0

abbrev pub time_left : Parts → (Event → Bool) → Walk → List LogEntry → ℕ
time_left c is w past = if w.asked then 0 else time_since c is past

abbrev pub whole : Parts → (Event → Bool) → Walk → List LogEntry → ℕ
whole c is w past = w.time + (slot_left c w past + time_left c is w past)
