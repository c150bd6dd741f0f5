-- A log as lines of values between commas (RFC 4180, with LF alone). Names of LDFs are words, which
-- need no quotes; what values mean may need them.
use Rattle.std.specs.Prelude.{ℕ, ◌==◌, ◌||◌, if◌then◌else◌, Bool, List, [], ◌∷◌, ◌++◌, length}
use Rattle.std.specs.Prelude.{flat_map, codes, Option}
use Rattle.std.specs.Fmt.{decimal}
use Rattle.std.specs.List.{list_any}
use Rattle.std.specs.Option.{option_map_or}
use Rattle.hex.specs.Hex.{encode_upper}
use Rattle.lin_frame.specs.Words.{numbers}
use Rattle.lin_frame.specs.declared.value.Value.{Value}
use Rattle.lin_frame.specs.declared.value.Value.TheVariants.{Scalar, Bytes}
use Rattle.lin_parts.specs.Cluster.{entry_kind, line_of, named_table, node_of, signal_of}
use Rattle.lin_parts.specs.declared.parts.Parts.{Parts}
use Rattle.lin_core.specs.History.{Slot, finished_slot, good_bytes, seen_of, time}
use Rattle.lin_core.specs.Signals.{ArePointwise, heard_value}
use Rattle.lin_core.specs.Tables.{look_of, look_word}
use Rattle.lin_core.specs.declared.event.Seen.{Seen}
use Rattle.lin_core.specs.declared.log.LogEntry.{LogEntry}
use Rattle.lin_values.specs.Coded.{common_unit, encoding_of, CodedData}
use Rattle.lin_values.specs.Meaning.{meaning}
use Rattle.lin_values.specs.Shown.{plain_shown}
use Rattle.lin_export.specs.Shown.{checksum_in, data_of, slot_name}
use Rattle.lin_export.specs.Telling.{each_entry}
use Rattle.lin_export.specs.Track.{finished_slot_count}
use Rattle.lin_export.specs.WhereTold.{where_told}

-- a cell after the mark that stands before it
abbrev pub marked_cell : List ℕ → List ℕ → List ℕ
marked_cell mark cell = mark ++ cell

-- a line: its cells with a comma between two, and LF
abbrev pub after_comma : List ℕ → List ℕ
after_comma cell = 44 ∷ cell

abbrev pub csv_line : List (List ℕ) → List ℕ
csv_line [] = 10 ∷ []
csv_line (cell ∷ cells) = cell ++ (flat_map after_comma cells ++ 10 ∷ [])

-- bytes in upper-case digits after `0x`, since spreadsheets make numbers of bare digits
abbrev pub hex_cell : List ℕ → List ℕ
hex_cell bytes = codes "0x" ++ encode_upper bytes

abbrev pub value_cell : Value → List ℕ
value_cell (Scalar n) = decimal n
value_cell (Bytes bytes) = hex_cell bytes

-- the names of the nodes that put responses, with one space between two
abbrev pub node_name : Parts → ℕ × List ℕ → List ℕ
node_name c put = (node_of c put.0).name

abbrev pub spaced_name : Parts → ℕ × List ℕ → List ℕ
spaced_name c put = 32 ∷ node_name c put

abbrev pub nodes_cell : Parts → List (ℕ × List ℕ) → List ℕ
nodes_cell c [] = []
nodes_cell c (put ∷ puts) = node_name c put ++ flat_map (spaced_name c) puts

-- ---- what values mean
-- a text as a cell: where it has a comma or a quote it stands between quotes, its own doubled
abbrev pub needs_quotes : List ℕ → Bool
needs_quotes text = list_any (λ b. b == 44 || b == 34) text

abbrev pub doubled_quote : ℕ → List ℕ
doubled_quote b = if b == 34 then 34 ∷ 34 ∷ [] else b ∷ []

abbrev pub text_cell : List ℕ → List ℕ
text_cell text = if needs_quotes text then 34 ∷ (flat_map doubled_quote text ++ 34 ∷ []) else text

-- a signal that has an encoding has one column more, whose name has the unit, where all its ranges
-- have one
abbrev pub unit_name : List ℕ → Option (List ℕ) → List ℕ
unit_name name unit =
    option_map_or (λ u. name ++ (codes " [" ++ (u ++ codes "]"))) unit (name ++ codes " value")

abbrev pub meaning_name : Parts → CodedData → ℕ → List ℕ
meaning_name c k s = unit_name (signal_of c s).name (common_unit k s)

abbrev pub meaning_names : Parts → CodedData → ℕ → List (List ℕ)
meaning_names c k s =
    option_map_or (λ t. text_cell (meaning_name c k s) ∷ []) (encoding_of k s) []

-- the decimal without its unit, the text without quotes of its own, or nothing
abbrev pub meaning_cell : CodedData → ℕ → Value → List ℕ
meaning_cell k s v = option_map_or (λ m. text_cell (plain_shown m)) (meaning k s v) []

abbrev pub meaning_cells : CodedData → ℕ → Value → List (List ℕ)
meaning_cells k s v = option_map_or (λ t. meaning_cell k s v ∷ []) (encoding_of k s) []

-- ---- the columns of a signal: its name above, its value below
abbrev pub signal_names : Parts → Option CodedData → ℕ → List (List ℕ)
signal_names c k s = (signal_of c s).name ∷ where_told k (λ d. meaning_names c d s)

abbrev pub signal_cells : Option CodedData → (ℕ → Value) → ℕ → List (List ℕ)
signal_cells k values s =
    value_cell (values s) ∷ where_told k (λ d. meaning_cells d s (values s))

-- the columns of all signals
abbrev pub column_names : Parts → Option CodedData → List (List ℕ)
column_names c k = flat_map (signal_names c k) (numbers (length c.signals))

abbrev pub column_cells : Parts → Option CodedData → (ℕ → Value) → List (List ℕ)
column_cells c k values = flat_map (signal_cells k values) (numbers (length c.signals))

-- something holds for the values of all signals
abbrev pub IfPointwise : List Value → ((ℕ → Value) → Type 0) → Type 0
IfPointwise values holds = (g : ℕ → Value) → ArePointwise g values → holds g

-- the names of the columns: those of each run, then those of the signals
abbrev pub head_line : Parts → Option CodedData → List ℕ
head_line c k =
    codes "slot,time_us,delay_us,table,entry,kind,frame,header,nodes,seen,data,checksum"
    ++ (flat_map after_comma (column_names c k) ++ 10 ∷ [])

-- a slot at a time: its delay, its entry, what that is for, and its header
abbrev pub schedule_cells : Parts → ℕ → Slot → List (List ℕ)
schedule_cells c at s =
    decimal at
    ∷ decimal (line_of c s.table s.entry).delay_us
    ∷ (named_table c s.table).name
    ∷ decimal s.entry
    ∷ entry_kind (line_of c s.table s.entry).entry
    ∷ slot_name c s
    ∷ option_map_or (λ header. hex_cell (header ∷ [])) s.header []
    ∷ []

-- how it was seen, its data bytes and its checksum
abbrev pub response_cells : Seen → List (List ℕ)
response_cells how =
    look_word (look_of how)
    ∷ option_map_or (λ answer. hex_cell (data_of answer)) (good_bytes how) []
    ∷ option_map_or (λ answer. hex_cell (checksum_in answer ∷ [])) (good_bytes how) []
    ∷ []

-- a slot by the time at its start: all cells between its number and the signals
abbrev pub slot_cells : Parts → ℕ → Slot → List (List ℕ)
slot_cells c at s =
    schedule_cells c at s ++ nodes_cell c s.puts ∷ response_cells (seen_of s)

-- the line of a slot by its number, the time at its start, and the values of the signals that are
-- heard after it
abbrev pub slot_line : Parts → Option CodedData → ℕ → ℕ → Slot → (ℕ → Value) → List ℕ
slot_line c k number at s values =
    csv_line (decimal number ∷ (slot_cells c at s ++ column_cells c k values))

-- what an entry says on those before it: the line of the slot that it finishes
abbrev pub csv_row : Parts → Option CodedData → LogEntry → List LogEntry → List ℕ
csv_row c k e past =
    option_map_or
    (λ s. slot_line c k (finished_slot_count past) (time c past) s (heard_value c (e ∷ past)))
    (finished_slot e past) []

-- the table of a log, the oldest entry first
abbrev pub csv : Parts → Option CodedData → List LogEntry → List ℕ
csv c k log = head_line c k ++ each_entry (csv_row c k) [] log
