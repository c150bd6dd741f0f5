-- The slot that ended last in a history.
use Rattle.std.specs.Prelude.{◌≡◌, ℕ, ◌≤◌, List, [], ◌∷◌, codes, length, map}
use Rattle.std.specs.Prelude.{reverse, take, Option, None, option_map}
use Rattle.std.specs.Fmt.{decimal}
use Rattle.std.specs.Option.{option_map_or, option_to_list}
use Rattle.lin_parts.specs.Cluster.{named_table}
use Rattle.lin_parts.specs.declared.parts.Parts.{Parts}
use Rattle.lin_core.specs.History.{Slot, good, open_slot, seen_of, time}
use Rattle.lin_core.specs.Tables.{look_of, look_word}
use Rattle.lin_core.specs.declared.log.LogEntry.{LogEntry}
use Rattle.lin_log.specs.LastFinish.{before_last_finish}
use Rattle.lin_log.specs.Words.{Word}
use Rattle.lin_log.specs.Words.Word.{Fixed, Hex, Number, Said}
use Rattle.lin_export.specs.Json.{hex_text, member, null, object, quoted_text}
use Rattle.lin_export.specs.Jsonl.{frame_member, time_member}
use Rattle.lin_export.specs.Shown.{data_of, slot_name}
use Rattle.lin_export.specs.Track.{TrackData, finished_slot_count, shown_slot, track_of}

-- a slot that has ended: its number, the time at its start, and the slot as it is shown
pub record EndedSlot : Type 0 where
  pub number : ℕ
  pub at : ℕ
  pub slot : Slot

-- the slot that is open after a history, as it is when it ends
abbrev pub ended_slot : Parts → List LogEntry → Option EndedSlot
ended_slot c past =
    option_map
    (λ s. record { number = finished_slot_count past; at = time c past; slot = shown_slot s })
    (open_slot past)

abbrev pub last_slot : Parts → List LogEntry → Option EndedSlot
last_slot c past = option_map_or (ended_slot c) (before_last_finish past) None

-- its number, the time at its start, its table, its entry, the name of its frame, how it was seen, and the
-- data bytes of a good response
abbrev pub ended_words : Parts → EndedSlot → List Word
ended_words c e =
    Number e.number
    ∷ Number e.at
    ∷ Said (named_table c e.slot.table).name
    ∷ Number e.slot.entry
    ∷ Said (slot_name c e.slot)
    ∷ Fixed (look_word (look_of (seen_of e.slot)))
    ∷ map (λ answer. Hex (data_of answer)) (option_to_list (good e.slot))

abbrev pub last_slot_words : Parts → Option EndedSlot → List Word
last_slot_words c last = option_map_or (ended_words c) last (Fixed (codes "none") ∷ [])

-- the same as a value of JSON
abbrev pub ended_value : Parts → EndedSlot → List ℕ
ended_value c e =
    object
    (member (codes "slot") (decimal e.number)
    ∷ time_member e.at
    ∷ member (codes "table") (quoted_text (named_table c e.slot.table).name)
    ∷ member (codes "entry") (decimal e.slot.entry)
    ∷ frame_member c e.slot
    ∷ member (codes "seen") (quoted_text (look_word (look_of (seen_of e.slot))))
    ∷ member (codes "data") (option_map_or (λ answer. hex_text (data_of answer)) (good e.slot) null)
    ∷ [])

abbrev pub last_slot_value : Parts → Option EndedSlot → List ℕ
last_slot_value c last = option_map_or (ended_value c) last null

-- ---- what is kept of the entries before the slot's end, and how many they are
pub record LastSlotData : Type 0 where
  pub track : TrackData
  pub entries : ℕ

-- it is kept of a beginning of these entries, which are in order
abbrev pub IsKeptOf : Parts → List LogEntry → LastSlotData → Type 0
IsKeptOf c es l = (l.entries ≤ length es) × (l.track ≡ track_of c (reverse (take l.entries es)))

-- the open slot of a track, as it is when it ends
abbrev pub end_of_slot : TrackData → Slot → EndedSlot
end_of_slot t s = record { number = t.slots; at = t.time; slot = s }

abbrev pub tracked_slot_end : TrackData → Option EndedSlot
tracked_slot_end t = option_map (end_of_slot t) t.slot

abbrev pub kept_slot : Option LastSlotData → Option EndedSlot
kept_slot last = option_map_or (λ (l : LastSlotData). tracked_slot_end l.track) last None
