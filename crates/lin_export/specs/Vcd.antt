-- A log as changes of values over time (IEEE 1364-2005, section 18, value change dump).
use Rattle.std.specs.Prelude.{ℕ, zero, suc, ◌+◌, ◌-◌, ◌*◌, ◌/◌, ◌%◌, ◌^◌, ◌==◌, nat_lt}
use Rattle.std.specs.Prelude.{if◌then◌else◌, List, [], ◌∷◌, ◌++◌, length, flat_map, codes, take}
use Rattle.std.specs.Prelude.{zip, reverse, Option}
use Rattle.std.specs.Fmt.{decimal}
use Rattle.std.specs.Option.{option_map_or}
use Rattle.lin_frame.specs.Bits.{unpacked_value}
use Rattle.lin_frame.specs.Words.{numbers}
use Rattle.lin_frame.specs.declared.layout.Place.{Place}
use Rattle.lin_frame.specs.declared.value.Value.{Value}
use Rattle.lin_frame.specs.declared.value.Value.TheVariants.{Scalar, Bytes}
use Rattle.lin_parts.specs.Cluster.{frame_of, node_of, nodes, signal_of}
use Rattle.lin_parts.specs.declared.parts.Parts.{Parts}
use Rattle.lin_core.specs.History.{Slot, done, events, good, open_slot, seen_of, time}
use Rattle.lin_core.specs.Signals.{carried_frame}
use Rattle.lin_core.specs.Tables.{look_number, look_of}
use Rattle.lin_core.specs.declared.event.Event.{Event}
use Rattle.lin_core.specs.declared.event.Event.TheVariants.{Accepted, Sent, Lost, Asleep}
use Rattle.lin_core.specs.declared.log.LogEntry.{LogEntry}
use Rattle.lin_core.specs.declared.step.Step.{Step}
use Rattle.lin_core.specs.declared.step.Step.TheVariants.{Write, Finish, Wake}
use Rattle.lin_values.specs.Coded.{has_range, CodedData}
use Rattle.lin_values.specs.Meaning.{meaning}
use Rattle.lin_values.specs.Meant.{Meant, Physical}
use Rattle.lin_values.specs.Shown.{plain_shown}
use Rattle.lin_export.specs.Telling.{each_entry}
use Rattle.lin_export.specs.Track.{finished_slot_count}
use Rattle.lin_export.specs.WhereTold.{where_told}

-- the low bits of a number as digits, the highest first
abbrev pub binary : ℕ → ℕ → List ℕ
binary zero n = []
binary (suc k) n = (48 + n / 2 ^ k % 2) ∷ binary k n

-- a value of so many bits; the first byte of an array stands highest
abbrev pub digits : ℕ → Value → List ℕ
digits size (Scalar n) = binary size n
digits size (Bytes bytes) = flat_map (binary 8) bytes

-- the code of a variable by its number: one or two printable characters
abbrev pub code : ℕ → List ℕ
code k = if nat_lt k 94 then (33 + k) ∷ [] else (33 + k % 94) ∷ (32 + k / 94) ∷ []

-- the numbers of variables: first the six of the bus, then the signals as they are heard, as they
-- are written, the hosts, and the signals that have a range by what they mean
abbrev pub heard_number : ℕ → ℕ
heard_number s = 6 + s

abbrev pub written_number : Parts → ℕ → ℕ
written_number c s = 6 + length c.signals + s

abbrev pub waiting_number : Parts → ℕ → ℕ
waiting_number c h = 6 + 2 * length c.signals + h

abbrev pub physical_number : Parts → ℕ → ℕ
physical_number c s = 6 + 2 * length c.signals + nodes c + s

-- a variable takes a value of so many bits, or one that isn't known
abbrev pub before_code : ℕ → List ℕ → List ℕ
before_code width value = if width == 1 then value else 98 ∷ (value ++ 32 ∷ [])

abbrev pub change : ℕ → ℕ → List ℕ → List ℕ
change width k value = before_code width value ++ (code k ++ 10 ∷ [])

abbrev pub unknown_change : ℕ → List ℕ
unknown_change k = codes "bx " ++ (code k ++ 10 ∷ [])

abbrev pub number_change : ℕ → ℕ → ℕ → List ℕ
number_change width k n = change width k (binary width n)

abbrev pub heard_change : Parts → ℕ → Value → List ℕ
heard_change c s v = change (signal_of c s).size (heard_number s) (digits (signal_of c s).size v)

abbrev pub written_change : Parts → ℕ → Value → List ℕ
written_change c s v =
    change (signal_of c s).size (written_number c s) (digits (signal_of c s).size v)

abbrev pub waiting_change : Parts → ℕ → ℕ → List ℕ
waiting_change c h n = number_change 11 (waiting_number c h) n

-- a variable takes a decimal, exactly, or `nan` where the value means none
abbrev pub real_word : Meant → List ℕ
real_word (Physical units unit) = plain_shown (Physical units unit)
real_word m = codes "nan"

abbrev pub real_value : Option Meant → List ℕ
real_value m = option_map_or real_word m (codes "nan")

abbrev pub real_line : List ℕ → List ℕ → List ℕ
real_line variable value = 114 ∷ (value ++ 32 ∷ (variable ++ 10 ∷ []))

abbrev pub real_change : ℕ → Option Meant → List ℕ
real_change k m = real_line (code k) (real_value m)

abbrev pub physical_change : Parts → CodedData → ℕ → Value → List ℕ
physical_change c k s v =
    if has_range k s then real_change (physical_number c s) (meaning k s v) else []

-- the declaration of a variable, and of a scope of them
abbrev pub text_line : List ℕ → List ℕ
text_line text = text ++ 10 ∷ []

abbrev pub wire_opening : ℕ → ℕ → List ℕ
wire_opening width k = codes "$var wire " ++ (decimal width ++ 32 ∷ (code k ++ 32 ∷ []))

abbrev pub declaration : ℕ → ℕ → List ℕ → List ℕ
declaration width k name = wire_opening width k ++ (name ++ text_line (codes " $end"))

abbrev pub scope : List ℕ → List ℕ → List ℕ
scope name variables =
    text_line (codes "$scope module " ++ name ++ codes " $end")
    ++ (variables ++ text_line (codes "$upscope $end"))

abbrev pub bus_variables : List ℕ
bus_variables =
    declaration 32 0 (codes "slot")
    ++ (declaration 16 1 (codes "table")
    ++ (declaration 16 2 (codes "entry")
    ++ (declaration 8 3 (codes "header")
    ++ (declaration 4 4 (codes "seen")
    ++ declaration 1 5 (codes "asleep")))))

abbrev pub heard_variable : Parts → ℕ → List ℕ
heard_variable c s = declaration (signal_of c s).size (heard_number s) (signal_of c s).name

abbrev pub written_variable : Parts → ℕ → List ℕ
written_variable c s =
    declaration (signal_of c s).size (written_number c s)
    ((signal_of c s).name ++ 64 ∷ (node_of c (signal_of c s).publisher).name)

abbrev pub waiting_variable : Parts → ℕ → List ℕ
waiting_variable c h = declaration 11 (waiting_number c h) (codes "waiting@" ++ (node_of c h).name)

-- what signals mean that have a range
abbrev pub physical_variable : Parts → CodedData → ℕ → List ℕ
physical_variable c k s =
    if has_range k s
    then codes "$var real 64 "
    ++ (code (physical_number c s) ++ 32 ∷ ((signal_of c s).name ++ text_line (codes " $end")))
    else []

abbrev pub physical_scope : Parts → CodedData → List ℕ
physical_scope c k =
    scope (codes "physical") (flat_map (physical_variable c k) (numbers (length c.signals)))

abbrev pub declarations : Parts → Option CodedData → List ℕ
declarations c k =
    text_line (codes "$timescale 1 us $end")
    ++ (scope (codes "bus") bus_variables
    ++ (scope (codes "heard") (flat_map (heard_variable c) (numbers (length c.signals)))
    ++ (scope (codes "written") (flat_map (written_variable c) (numbers (length c.signals)))
    ++ (scope (codes "waiting") (flat_map (waiting_variable c) (numbers (nodes c)))
    ++ (where_told k (physical_scope c) ++ text_line (codes "$enddefinitions $end"))))))

-- the first value of each variable: the bus has shown nothing and is awake, signals have their
-- initial values, and no message waits
abbrev pub first_heard : Parts → ℕ → List ℕ
first_heard c s = heard_change c s (signal_of c s).initial

abbrev pub first_written : Parts → ℕ → List ℕ
first_written c s = written_change c s (signal_of c s).initial

abbrev pub first_waiting : Parts → ℕ → List ℕ
first_waiting c h = waiting_change c h 0

abbrev pub first_physical : Parts → CodedData → ℕ → List ℕ
first_physical c k s = physical_change c k s (signal_of c s).initial

abbrev pub first_decimals : Parts → CodedData → List ℕ
first_decimals c k = flat_map (first_physical c k) (numbers (length c.signals))

abbrev pub first_values : Parts → Option CodedData → List ℕ
first_values c k =
    text_line (codes "#0")
    ++ (text_line (codes "$dumpvars")
    ++ (flat_map unknown_change (numbers 5)
    ++ (number_change 1 5 0
    ++ (flat_map (first_heard c) (numbers (length c.signals))
    ++ (flat_map (first_written c) (numbers (length c.signals))
    ++ (flat_map (first_waiting c) (numbers (nodes c))
    ++ (where_told k (first_decimals c) ++ text_line (codes "$end"))))))))

abbrev pub vcd_head : Parts → Option CodedData → List ℕ
vcd_head c k = declarations c k ++ first_values c k

-- how many messages of a host wait, as the events say: at most 2,047
abbrev pub one_more : ℕ → ℕ
one_more n = if nat_lt n 2047 then n + 1 else n

abbrev pub count_after : ℕ → Event → ℕ → ℕ
count_after h (Accepted host number) n = if host == h then one_more n else n
count_after h (Sent host number) n = if host == h then n - 1 else n
count_after h (Lost host number why) n = if host == h then n - 1 else n
count_after h event n = n

abbrev pub counted_all : ℕ → List Event → ℕ → ℕ
counted_all h [] n = n
counted_all h (e ∷ es) n = counted_all h es (count_after h e n)

abbrev pub waiting_count : List LogEntry → ℕ → ℕ
waiting_count [] h = 0
waiting_count (e ∷ past) h = counted_all h (events e) (waiting_count past h)

-- changes at a time in microseconds
pub record Group : Type 0 where
  pub at : ℕ
  pub changes : List ℕ

-- a time stands before the changes at it where it is later than the last one
abbrev pub stamp : ℕ → ℕ → List ℕ
stamp last at = if nat_lt last at then 35 ∷ (decimal at ++ 10 ∷ []) else []

abbrev pub later : ℕ → ℕ → ℕ
later last at = if nat_lt last at then at else last

abbrev pub timed_groups : ℕ → List Group → List ℕ
timed_groups last [] = []
timed_groups last (g ∷ gs) = stamp last g.at ++ (g.changes ++ timed_groups (later last g.at) gs)

abbrev pub latest : ℕ → List Group → ℕ
latest last [] = last
latest last (g ∷ gs) = latest (later last g.at) gs

abbrev pub header_change : Option ℕ → List ℕ
header_change header = option_map_or (number_change 8 3) header (unknown_change 3)

-- a finished slot by its number: what the bus shows from its start
abbrev pub slot_changes : ℕ → Slot → List ℕ
slot_changes number s =
    number_change 32 0 number
    ++ (number_change 16 1 s.table
    ++ (number_change 16 2 s.entry
    ++ (header_change s.header
    ++ number_change 4 4 (look_number (look_of (seen_of s))))))

-- the signals of a frame that was seen good, in the order of its places
abbrev pub place_change : Parts → List ℕ → ℕ × Place → List ℕ
place_change c answer p = heard_change c p.0 (unpacked_value p.1 (take 8 answer))

abbrev pub frame_changes : Parts → ℕ → List ℕ → List ℕ
frame_changes c f answer =
    flat_map (place_change c answer) (zip (frame_of c f).signals (frame_of c f).layout.places)

-- what they mean, those that have a range
abbrev pub place_decimal : Parts → CodedData → List ℕ → ℕ × Place → List ℕ
place_decimal c k answer p = physical_change c k p.0 (unpacked_value p.1 (take 8 answer))

abbrev pub frame_decimals : Parts → List ℕ → ℕ → CodedData → List ℕ
frame_decimals c answer f k =
    flat_map (place_decimal c k answer) (zip (frame_of c f).signals (frame_of c f).layout.places)

abbrev pub heard_changes : Parts → Option CodedData → List ℕ → ℕ → List ℕ
heard_changes c k answer f = frame_changes c f answer ++ where_told k (frame_decimals c answer f)

abbrev pub heard_group : Parts → Option CodedData → ℕ → Slot → List Group
heard_group c k end s =
    option_map_or
    (λ answer. option_map_or
    (λ f. record { at = end; changes = heard_changes c k answer f } ∷ []) (carried_frame c s) [])
    (good s) []

abbrev pub slot_groups : Parts → Option CodedData → ℕ → ℕ → ℕ → Slot → List Group
slot_groups c k number at end s =
    record { at = at; changes = slot_changes number s } ∷ heard_group c k end s

-- what a step that was done changes by itself: a write of a signal, a slot at its start and what is
-- heard at its end, a wake
abbrev pub step_groups : Parts → Option CodedData → List LogEntry → ℕ → Step → List Group
step_groups c k past end (Write by signal value) =
    if nat_lt signal (length c.signals)
    then record { at = time c past; changes = written_change c signal value } ∷ [] else []
step_groups c k past end Finish =
    option_map_or (slot_groups c k (finished_slot_count past) (time c past) end) (open_slot past) []
step_groups c k past end Wake = record { at = time c past; changes = number_change 1 5 0 } ∷ []
step_groups c k past end step = []

abbrev pub count_group : Parts → ℕ → (ℕ → ℕ) → ℕ → List Group
count_group c at count host = record { at = at; changes = waiting_change c host (count host) } ∷ []

-- and what its events change, where so many messages of each host wait then
abbrev pub event_group : Parts → ℕ → (ℕ → ℕ) → Event → List Group
event_group c at count (Accepted host number) = count_group c at count host
event_group c at count (Sent host number) = count_group c at count host
event_group c at count (Lost host number why) = count_group c at count host
event_group c at count Asleep = record { at = at; changes = number_change 1 5 1 } ∷ []
event_group c at count event = []

abbrev pub event_groups : Parts → ℕ → (ℕ → ℕ) → List Event → List Group
event_groups c at count es = flat_map (event_group c at count) es

abbrev pub groups : Parts → Option CodedData → LogEntry → List LogEntry → List Group
groups c k e past =
    option_map_or (step_groups c k past (time c (e ∷ past))) (done e) []
    ++ event_groups c (time c (e ∷ past)) (waiting_count (e ∷ past)) (events e)

-- the last time that stands in the text
abbrev pub shown_at : Parts → Option CodedData → List LogEntry → ℕ
shown_at c k [] = 0
shown_at c k (e ∷ past) = latest (shown_at c k past) (groups c k e past)

abbrev pub entry_changes : Parts → Option CodedData → LogEntry → List LogEntry → List ℕ
entry_changes c k e past = timed_groups (shown_at c k past) (groups c k e past)

-- the changes of a log, the oldest entry first, and the time of its end
abbrev pub end_stamp : Parts → Option CodedData → List LogEntry → List ℕ
end_stamp c k past = stamp (shown_at c k past) (time c past)

abbrev pub vcd : Parts → Option CodedData → List LogEntry → List ℕ
vcd c k log = vcd_head c k ++ (each_entry (entry_changes c k) [] log ++ end_stamp c k (reverse log))
