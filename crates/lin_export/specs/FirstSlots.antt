-- The first 200 slots of a log, as a table of HTML: of each what its line in a table (CSV) begins
-- with, up to the signals.
use Rattle.std.specs.Prelude.{ℕ, nat_lt, if◌then◌else◌, List, [], ◌∷◌, ◌++◌, flat_map, codes}
use Rattle.std.specs.Fmt.{decimal}
use Rattle.std.specs.Option.{option_map_or}
use Rattle.lin_parts.specs.declared.parts.Parts.{Parts}
use Rattle.lin_core.specs.History.{Slot, finished_slot, time}
use Rattle.lin_core.specs.declared.log.LogEntry.{LogEntry}
use Rattle.lin_export.specs.Csv.{marked_cell, slot_cells}
use Rattle.lin_export.specs.Telling.{each_entry}
use Rattle.lin_export.specs.Track.{finished_slot_count}

-- the beginning of the table: the names of the columns
abbrev pub table_head : List ℕ
table_head =
    codes "<table>" ++ 10 ∷ codes "<tr><th>slot<th>time_us<th>delay_us<th>table<th>entry<th>kind"
    ++ (codes "<th>frame<th>header<th>nodes<th>seen<th>data<th>checksum" ++ 10 ∷ [])

-- the row of a slot by its number and the time at its start
abbrev pub slot_row : Parts → ℕ → ℕ → Slot → List ℕ
slot_row c number at s =
    codes "<tr>"
    ++ (flat_map (marked_cell (codes "<td>")) (decimal number ∷ slot_cells c at s) ++ 10 ∷ [])

-- if it is one of the first
abbrev pub first_slot_row : Parts → ℕ → ℕ → Slot → List ℕ
first_slot_row c number at s = if nat_lt number 200 then slot_row c number at s else []

-- what an entry says on those before it: the row of the slot that it finishes
abbrev pub first_row : Parts → LogEntry → List LogEntry → List ℕ
first_row c e past =
    option_map_or (first_slot_row c (finished_slot_count past) (time c past)) (finished_slot e past) []

-- the table of a log, the oldest entry first
abbrev pub first_slots : Parts → List LogEntry → List ℕ
first_slots c log =
    table_head ++ (each_entry (first_row c) [] log ++ (codes "</table>" ++ 10 ∷ []))
