-- The slots that a log finished. A log is the oldest entry first, a history the newest first.
use Rattle.std.specs.Prelude.{◌≡◌, ℕ, ◌==◌, Bool, List, [], ◌∷◌, ◌++◌}
use Rattle.std.specs.Prelude.{filter, length, map, min, reverse, Option, option_map}
use Rattle.std.specs.List.{list_any}
use Rattle.std.specs.Option.{option_map_or, option_to_list}
use Rattle.lin_frame.specs.Words.{numbers}
use Rattle.lin_parts.specs.Cluster.{entry_name, frame_name, line_of}
use Rattle.lin_parts.specs.declared.parts.Parts.{Parts}
use Rattle.lin_core.specs.History.{Slot, finished_slot, first_node, open_slot}
use Rattle.lin_core.specs.declared.log.LogEntry.{LogEntry}
use Rattle.lin_export.specs.Shown.{slot_frame}
use Rattle.lin_tool.specs.declared.campaign.finished_slots.KeptSlot.{KeptSlot}
use Rattle.lin_tool.specs.declared.campaign.finished_slots.SlotReader.{SlotReader}

-- the slots of a history, in order
abbrev pub slots_of : List LogEntry → List Slot
slots_of [] = []
slots_of (e ∷ past) = slots_of past ++ option_to_list (finished_slot e past)

abbrev pub finished_slots : List LogEntry → List Slot
finished_slots log = slots_of (reverse log)

-- the nodes that responded in a slot, by rising number: a cluster has at most 16
abbrev pub has_responded : Slot → ℕ → Bool
has_responded s n = list_any (λ (p : ℕ × List ℕ). p.0 == n) s.puts

unfoldable pub responders : Slot → List ℕ
responders s = filter (has_responded s) (numbers 16)

-- the frame whose name a slot has in a table of its log
abbrev pub frame_shown : Parts → Slot → Option ℕ
frame_shown c s = slot_frame c (line_of c s.table s.entry).entry s

-- the name of a slot's frame, and failing that of what its entry is for
abbrev pub frame_or_entry_name : Parts → ℕ → ℕ → Option ℕ → List ℕ
frame_or_entry_name c table entry frame =
    option_map_or (frame_name c) frame (entry_name c (line_of c table entry).entry)

-- ---- a reader of a log
-- what is kept of a slot: which of 16 nodes responded, the first of them, and how many responses there
-- are, up to 255
abbrev pub kept_of_slot : Slot → KeptSlot
kept_of_slot s = record {
  table = s.table;
  entry = s.entry;
  header = s.header;
  answered = map (has_responded s) (numbers 16);
  first = first_node s;
  responses = min (length s.puts) 255;
  is_hurt = s.hurt;
}

-- the entries of this history were read
abbrev pub HasRead : SlotReader → List LogEntry → Type 0
HasRead reader past = reader.open ≡ option_map kept_of_slot (open_slot past)

-- one entry more was read; this slot was finished by it, if one was
abbrev pub ReadsEntry : SlotReader → LogEntry → SlotReader → Option KeptSlot → Type 0
ReadsEntry old entry new slot =
    (past : List LogEntry) → HasRead old past
    → HasRead new (entry ∷ past) × (slot ≡ option_map kept_of_slot (finished_slot entry past))
