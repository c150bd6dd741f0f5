-- What of a slot is shown by name.
use Rattle.std.specs.Prelude.{ℕ, ◌-◌, List, length, take, slice_index, if◌then◌else◌, is_some}
use Rattle.std.specs.Prelude.{Option, None}
use Rattle.std.specs.Option.{option_map_or, unwrap_or}
use Rattle.lin_frame.specs.declared.value.Value.{Value}
use Rattle.lin_parts.specs.Cluster.{entry_name, frame_name, line_of}
use Rattle.lin_parts.specs.declared.parts.Parts.{Parts}
use Rattle.lin_parts.specs.declared.parts.Entry.{Entry}
use Rattle.lin_parts.specs.declared.parts.Entry.TheVariants.{Event}
use Rattle.lin_core.specs.History.{Slot, good}
use Rattle.lin_core.specs.Signals.{carried_by, value_in}

-- the data bytes of a response, and its checksum
abbrev pub data_of : List ℕ → List ℕ
data_of answer = take (length answer - 1) answer

abbrev pub checksum_in : List ℕ → ℕ
checksum_in answer = slice_index answer (length answer - 1)

-- the values of signals that are heard after a slot, by those that are heard before it
abbrev pub value_after_slot : Parts → Slot → (ℕ → Value) → ℕ → Value
value_after_slot c slot before s = unwrap_or (value_in c slot s) (before s)

-- the frame of a slot: the entry's own; of a sporadic frame the member with the slot's header; of
-- an event-triggered one that was seen good the member whose publisher put the response
abbrev pub slot_frame : Parts → Entry → Slot → Option ℕ
slot_frame c (Event e) s = if is_some (good s) then carried_by c (Event e) s else None
slot_frame c entry s = carried_by c entry s

-- the name of a slot's frame, and failing that of what its entry is for
abbrev pub slot_name : Parts → Slot → List ℕ
slot_name c s =
    let entry =
    (line_of c s.table s.entry).entry
    in option_map_or (frame_name c) (slot_frame c entry s) (entry_name c entry)
