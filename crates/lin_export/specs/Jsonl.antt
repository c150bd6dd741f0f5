-- A run as objects of JSON, one a line: the run; of each entry of its log a slot that was finished, a
-- write, each event of a message, sleep and wake-up, or a step that was refused; failed checks; the end.
use Rattle.std.specs.Prelude.{◌≡◌, ℕ, ◌+◌, ◌-◌, ◌==◌, Bool, not, ◌&&◌, ◌||◌, if◌then◌else◌, List, []}
use Rattle.std.specs.Prelude.{◌∷◌, ◌++◌, length, map, flat_map, codes, drop, reverse, take, zip, slice_get}
use Rattle.std.specs.Prelude.{slice_index, Option, None, Some, option_map}
use Rattle.std.specs.Fmt.{decimal}
use Rattle.std.specs.Option.{option_map_or}
use Rattle.lin_frame.specs.Bits.{unpacked_value}
use Rattle.lin_frame.specs.Words.{numbers}
use Rattle.lin_frame.specs.declared.layout.Place.{Place}
use Rattle.lin_frame.specs.declared.value.Value.{Value}
use Rattle.lin_frame.specs.declared.value.Value.TheVariants.{Scalar, Bytes}
use Rattle.lin_parts.specs.Cluster.{entry_kind, frame_of, line_of, nad, named_table}
use Rattle.lin_parts.specs.Cluster.{node_of, nodes, signal_of}
use Rattle.lin_parts.specs.declared.parts.Parts.{Parts}
use Rattle.lin_parts.specs.declared.parts.Entry.{Entry}
use Rattle.lin_parts.specs.declared.parts.Entry.TheVariants.{Quiet}
use Rattle.lin_core.specs.History.{Slot, events, good, good_bytes, header_is, open_slot, seen_of}
use Rattle.lin_core.specs.History.{time}
use Rattle.lin_core.specs.Signals.{carried_frame}
use Rattle.lin_core.specs.Tables.{cause_word, look_of, look_word, refusal_number, refusal_word}
use Rattle.lin_core.specs.declared.event.Event.{Event}
use Rattle.lin_core.specs.declared.event.Event.TheVariants.{Accepted, Message, Sent, Lost, Asleep}
use Rattle.lin_core.specs.declared.event.Seen.{Seen}
use Rattle.lin_core.specs.declared.link.Cause.{Cause}
use Rattle.lin_core.specs.declared.log.LogEntry.{LogEntry}
use Rattle.lin_core.specs.declared.port.PortId.{PortId}
use Rattle.lin_core.specs.declared.reply.Refusal.{Refusal}
use Rattle.lin_core.specs.declared.reply.Reply.{Reply}
use Rattle.lin_core.specs.declared.reply.Reply.TheVariants.{Done, Refused}
use Rattle.lin_core.specs.declared.step.Step.{Step}
use Rattle.lin_core.specs.declared.step.Step.TheVariants.{Send, Finish, Wake, Write}
use Rattle.lin_log.specs.Language.{named_language}
use Rattle.lin_log.specs.Words.{spaced_word, step_words, value_word, word_text}
use Rattle.lin_log.specs.Words.Word.{Port}
use Rattle.lin_values.specs.Coded.{CodedData}
use Rattle.lin_values.specs.Meaning.{meaning}
use Rattle.lin_values.specs.Meant.{Meant}
use Rattle.lin_export.specs.Json.{json_array, hex_text, member, null, object, object_line, printable_text}
use Rattle.lin_export.specs.Json.{quoted_text}
use Rattle.lin_export.specs.PutsGroups.{AreCounts}
use Rattle.lin_export.specs.Quantities.{column_key, column_value, has_meaning, meaning_text, quantity}
use Rattle.lin_export.specs.Shown.{checksum_in, data_of, slot_name}
use Rattle.lin_export.specs.Telling.{each_entry}
use Rattle.lin_export.specs.Track.{TrackData, finished_slot_count, track_of}
use Rattle.lin_export.specs.WhereTold.{where_told}
use Rattle.lin_export.specs.declared.jsonl.Counts.{Counts}
use Rattle.lin_export.specs.declared.jsonl.Unmet.{Unmet}
use Rattle.lin_export.specs.declared.jsonl.LogRange.{LogRange}
use Rattle.lin_export.specs.declared.jsonl.WrittenValue.{WrittenValue}
use Rattle.lin_export.specs.declared.slot_meanings.Column.{Column}
use Rattle.lin_export.specs.declared.slot_meanings.Column.TheVariants.{Texts, Quantities}

-- ---- values
abbrev pub node_text : Parts → ℕ → List ℕ
node_text c n = quoted_text (node_of c n).name

-- the diagnostic address of a node
abbrev pub nad_value : Parts → ℕ → List ℕ
nad_value c n = option_map_or decimal (nad c n) null

-- a scalar's number, or `x` and an array's bytes
abbrev pub signal_value : Value → List ℕ
signal_value (Scalar n) = decimal n
signal_value (Bytes bytes) = quoted_text (value_word (Bytes bytes))

-- ---- members that several objects have
abbrev pub time_member : ℕ → List ℕ
time_member at = member (codes "time_us") (decimal at)

abbrev pub host_member : Parts → ℕ → List ℕ
host_member c host = member (codes "host") (node_text c host)

abbrev pub number_member : ℕ → List ℕ
number_member n = member (codes "number") (decimal n)

abbrev pub bytes_member : List ℕ → List ℕ
bytes_member bytes = member (codes "bytes") (hex_text bytes)

-- ---- the run: the table that it opened with, and the capacity of the queues
abbrev pub run_line : Parts → ℕ → ℕ → List ℕ
run_line c opening capacity =
    object_line (codes "run")
    (member (codes "version") (decimal 2)
    ∷ member (codes "table") (quoted_text (named_table c opening).name)
    ∷ member (codes "capacity") (decimal capacity)
    ∷ member (codes "nodes") (json_array (map (node_text c) (numbers (nodes c))))
    ∷ member (codes "nads") (json_array (map (nad_value c) (numbers (nodes c))))
    ∷ [])

-- ---- a slot
-- what it is for; a configuration entry has no frame
abbrev pub frame_value : Entry → List ℕ → List ℕ
frame_value Quiet name = null
frame_value entry name = quoted_text name

abbrev pub frame_member : Parts → Slot → List ℕ
frame_member c s =
    member (codes "frame") (frame_value (line_of c s.table s.entry).entry (slot_name c s))

abbrev pub header_member : Option ℕ → List ℕ
header_member header = member (codes "header") (option_map_or decimal header null)

-- a slot by its number and the time at its start: where it stands in the schedule
abbrev pub schedule_members : Parts → ℕ → ℕ → Slot → List (List ℕ)
schedule_members c number at s =
    member (codes "slot") (decimal number)
    ∷ time_member at
    ∷ member (codes "delay_us") (decimal (line_of c s.table s.entry).delay_us)
    ∷ member (codes "table") (quoted_text (named_table c s.table).name)
    ∷ member (codes "entry") (decimal s.entry)
    ∷ member (codes "kind") (quoted_text (entry_kind (line_of c s.table s.entry).entry))
    ∷ frame_member c s
    ∷ header_member s.header
    ∷ []

-- the nodes that were due, and those that answered, with data and checksum
abbrev pub due_member : Parts → List ℕ → List ℕ
due_member c due = member (codes "due") (json_array (map (node_text c) due))

abbrev pub answer_value : Parts → ℕ × List ℕ → List ℕ
answer_value c put = object (member (codes "node") (node_text c put.0) ∷ bytes_member put.1 ∷ [])

abbrev pub answers_member : Parts → List (ℕ × List ℕ) → List ℕ
answers_member c puts = member (codes "answers") (json_array (map (answer_value c) puts))

-- the bytes that the nodes saw in place of a disturbed response
abbrev pub hurt_member : Bool → List ℕ → List ℕ
hurt_member hurt bytes = member (codes "hurt") (if hurt then hex_text bytes else null)

-- how it was seen, with the data bytes and the checksum of a good response
abbrev pub response_members : Seen → List (List ℕ)
response_members how =
    member (codes "seen") (quoted_text (look_word (look_of how)))
    ∷ member (codes "data")
    (option_map_or (λ answer. hex_text (data_of answer)) (good_bytes how) null)
    ∷ member (codes "checksum")
    (option_map_or (λ answer. decimal (checksum_in answer)) (good_bytes how) null)
    ∷ []

-- the signals of the frame that a good response carries, in the order of their places
abbrev pub signal_member : Parts → List ℕ → ℕ × Place → List ℕ
signal_member c answer p =
    member (signal_of c p.0).name (signal_value (unpacked_value p.1 (take 8 answer)))

abbrev pub frame_signals : Parts → List ℕ → ℕ → List (List ℕ)
frame_signals c answer f =
    map (signal_member c answer) (zip (frame_of c f).signals (frame_of c f).layout.places)

abbrev pub carried_signals : Parts → Slot → List (List ℕ)
carried_signals c s =
    option_map_or
    (λ answer. option_map_or (frame_signals c answer) (carried_frame c s) []) (good s) []

abbrev pub signals_member : Parts → Slot → List ℕ
signals_member c s = member (codes "signals") (object (carried_signals c s))

-- whether a response is a frame of a message (ISO 17987-2): one to a master request or a slave
-- response header, but for the sleep frame, a master request whose first byte is 0
abbrev pub is_message_frame : Option ℕ → List ℕ → Bool
is_message_frame header answer =
    header_is 0x7D header || (header_is 0x3C header && not (slice_index answer 0 == 0))

-- the message of which the last response of a slot is a frame: of its host the one after the last
-- that was sent or lost, since a host's messages are on the bus one after another
abbrev pub message_value : Parts → (ℕ → ℕ) → Option ℕ → ℕ × List ℕ → List ℕ
message_value c last header put =
    if is_message_frame header put.1
    then object (host_member c put.0 ∷ number_member (last put.0 + 1) ∷ []) else null

-- the last response of a slot of messages; in a slot for a service none is a frame of a message
abbrev pub message_put : Slot → Option (ℕ × List ℕ)
message_put s = if s.service then None else slice_get s.puts (length s.puts - 1)

abbrev pub message_member : Parts → (ℕ → ℕ) → Slot → List ℕ
message_member c last s =
    member (codes "message") (option_map_or (message_value c last s.header) (message_put s) null)

-- the meanings of these signals' values: the texts of all that have one, and the quantities of those in
-- ranges
abbrev pub column_members : Column → Parts → ℕ → Option Meant → List (List ℕ)
column_members column c s meant =
    option_map_or
    (λ m. if has_meaning column m then member (signal_of c s).name (column_value column m) ∷ [] else [])
    meant []

abbrev pub meaning_members : Column → Parts → CodedData → ℕ → Value → List (List ℕ)
meaning_members column c k s v = column_members column c s (meaning k s v)

abbrev pub place_meanings : Column → Parts → CodedData → List ℕ → ℕ × Place → List (List ℕ)
place_meanings column c k answer p = meaning_members column c k p.0 (unpacked_value p.1 (take 8 answer))

abbrev pub frame_meanings : Column → Parts → CodedData → List ℕ → ℕ → List (List ℕ)
frame_meanings column c k answer f =
    flat_map (place_meanings column c k answer) (zip (frame_of c f).signals (frame_of c f).layout.places)

abbrev pub carried_meanings : Column → Parts → CodedData → Slot → List (List ℕ)
carried_meanings column c k s =
    option_map_or
    (λ answer. option_map_or (frame_meanings column c k answer) (carried_frame c s) []) (good s) []

abbrev pub column_member : Column → Parts → CodedData → Slot → List ℕ
column_member column c k s = member (column_key column) (object (carried_meanings column c k s))

abbrev pub physical_members : Parts → CodedData → Slot → List (List ℕ)
physical_members c k s = column_member Texts c k s ∷ column_member Quantities c k s ∷ []

abbrev pub told_meanings : Parts → Option CodedData → Slot → List (List ℕ)
told_meanings c k s = where_told k (λ d. physical_members c d s)

-- a slot by what is kept of the entries before its end, and the number of the last message of each
-- host that was sent or lost before
abbrev pub slot_line : Parts → Option CodedData → TrackData → (ℕ → ℕ) → Slot → List ℕ
slot_line c k t last s =
    object_line (codes "slot")
    (schedule_members c t.slots t.time s
    ++ (due_member c s.due
    ∷ answers_member c s.puts
    ∷ hurt_member s.hurt t.hurt
    ∷ (response_members (seen_of s)
    ++ signals_member c s
    ∷ message_member c last s
    ∷ told_meanings c k s)))

-- the number of the last message of a host that was sent or lost, and 0 where none was
abbrev pub settled_after : ℕ → Event → ℕ → ℕ
settled_after h (Sent host number) n = if host == h then number else n
settled_after h (Lost host number why) n = if host == h then number else n
settled_after h event n = n

abbrev pub settled_all : ℕ → List Event → ℕ → ℕ
settled_all h [] n = n
settled_all h (e ∷ es) n = settled_all h es (settled_after h e n)

abbrev pub settled_count : List LogEntry → ℕ → ℕ
settled_count [] h = 0
settled_count (e ∷ past) h = settled_all h (events e) (settled_count past h)

-- ---- events, at a time
-- a message that was accepted, by its step; null where it goes to all responders (ISO 17987-2,
-- functional node address)
abbrev pub receiver_member : Parts → ℕ → List ℕ
receiver_member c to = member (codes "to") (if to == 126 then null else node_text c to)

-- what a send says but for its bytes
abbrev pub sending_members : Parts → ℕ → ℕ → ℕ → ℕ → List (List ℕ)
sending_members c at host number to =
    time_member at ∷ host_member c host ∷ number_member number ∷ receiver_member c to ∷ []

abbrev pub accepted_line : Parts → ℕ → ℕ → ℕ → Step → List ℕ
accepted_line c at host number (Send from to message) =
    object_line (codes "accepted")
    (sending_members c at host number to ++ bytes_member message ∷ [])
accepted_line c at host number step = []

-- a message that arrived at the end of a slot
abbrev pub message_line : Parts → ℕ → ℕ → ℕ → ℕ → List ℕ → List ℕ
message_line c at slot from to bytes =
    object_line (codes "message")
    (time_member at
    ∷ member (codes "slot") (decimal slot)
    ∷ member (codes "from") (node_text c from)
    ∷ member (codes "to") (node_text c to)
    ∷ bytes_member bytes
    ∷ [])

-- what became of a message
abbrev pub sent_line : Parts → ℕ → ℕ → ℕ → List ℕ
sent_line c at host number =
    object_line (codes "sent") (time_member at ∷ host_member c host ∷ number_member number ∷ [])

abbrev pub lost_line : Parts → ℕ → ℕ → ℕ → Cause → List ℕ
lost_line c at host number why =
    object_line (codes "lost")
    (time_member at ∷ host_member c host ∷ number_member number
    ∷ member (codes "cause") (quoted_text (cause_word why)) ∷ [])

-- an event of a step, at the end of a slot where it is one of a finish
abbrev pub event_line : Parts → Step → ℕ → ℕ → Event → List ℕ
event_line c step slot at (Accepted host number) = accepted_line c at host number step
event_line c step slot at (Message from to bytes) = message_line c at slot from to bytes
event_line c step slot at (Sent host number) = sent_line c at host number
event_line c step slot at (Lost host number why) = lost_line c at host number why
event_line c step slot at Asleep = object_line (codes "asleep") (time_member at ∷ [])
event_line c step slot at event = []

-- ---- writes
-- the meaning of a value: its text under a key, and its quantity; null if it has none
abbrev pub meant_members : List ℕ → CodedData → ℕ → Value → List (List ℕ)
meant_members key k s v =
    member key (option_map_or meaning_text (meaning k s v) null)
    ∷ member (codes "quantity") (option_map_or quantity (meaning k s v) null)
    ∷ []

-- a write that was done
abbrev pub write_line : Parts → Option CodedData → ℕ → ℕ → ℕ → Value → List ℕ
write_line c k at node signal v =
    object_line (codes "write")
    (time_member at
    ∷ member (codes "node") (node_text c node)
    ∷ member (codes "signal") (quoted_text (signal_of c signal).name)
    ∷ member (codes "value") (signal_value v)
    ∷ where_told k (λ d. meant_members (codes "physical") d signal v))

abbrev pub written_line : Parts → Option CodedData → ℕ → WrittenValue → List ℕ
written_line c k at written = write_line c k at written.node written.signal written.value.now

-- ---- entries
-- what a step that was done says by itself on the entries before it: the slot that it finishes, a
-- write or a wake-up
abbrev pub step_object : Parts → Option CodedData → List LogEntry → Step → List ℕ
step_object c k past Finish =
    option_map_or (slot_line c k (track_of c past) (settled_count past)) (open_slot past) []
step_object c k past (Write node signal v) = write_line c k (time c past) node signal v
step_object c k past Wake = object_line (codes "awake") (time_member (time c past) ∷ [])
step_object c k past step = []

-- a step that was refused: its line with names, and the refusal's number and name
abbrev pub step_text : Parts → PortId → Step → List ℕ
step_text c port step =
    quoted_text
    (word_text (named_language c) (Port port)
    ++ flat_map spaced_word (map (word_text (named_language c)) (step_words step)))

abbrev pub refused_line : Parts → ℕ → PortId → Step → Refusal → List ℕ
refused_line c at port step why =
    object_line (codes "refused")
    (time_member at
    ∷ member (codes "step") (step_text c port step)
    ∷ number_member (refusal_number why)
    ∷ member (codes "name") (quoted_text (refusal_word why))
    ∷ [])

-- what an entry with this reply says on those before it; its events come at the time after it
abbrev pub reply_objects : Parts → Option CodedData → LogEntry → List LogEntry → Reply → List ℕ
reply_objects c k e past (Done es) =
    step_object c k past e.step
    ++ flat_map (event_line c e.step (finished_slot_count past) (time c (e ∷ past))) es
reply_objects c k e past (Refused why) = refused_line c (time c past) e.port e.step why

abbrev pub entry_objects : Parts → Option CodedData → LogEntry → List LogEntry → List ℕ
entry_objects c k e past = reply_objects c k e past e.reply

-- the objects of entries, the oldest first, on those before them
abbrev pub objects_of : Parts → Option CodedData → List LogEntry → List LogEntry → List ℕ
objects_of c k past entries = each_entry (entry_objects c k) past entries

-- the objects of the entries of a log from one on, and of a range of them
abbrev pub objects_from : Parts → Option CodedData → List LogEntry → ℕ → List ℕ
objects_from c k log from = objects_of c k (reverse (take from log)) (drop from log)

abbrev pub entries_before : LogRange → List LogEntry
entries_before r = reverse (take r.from r.log.now.entries)

abbrev pub entries_to_end : LogRange → List LogEntry
entries_to_end r = reverse (take r.end r.log.now.entries)

abbrev pub objects_between : Parts → Option CodedData → LogRange → List ℕ
objects_between c k r =
    objects_of c k (entries_before r) (drop r.from (take r.end r.log.now.entries))

-- ---- checks
-- the number of the last one of so many finished slots, from 0; null before the first one
abbrev pub last_slot_number : ℕ → List ℕ
last_slot_number count = if count == 0 then null else decimal (count - 1)

-- the name of a test; null outside of tests
abbrev pub test_shown : Option (List ℕ) → List ℕ
test_shown None = null
test_shown (Some name) = printable_text name

-- a check of a script's line that failed after a history: its test, what was expected, and what is so
-- instead
abbrev pub unmet_line : Parts → List LogEntry → List ℕ → ℕ → Option (List ℕ) → List ℕ → List ℕ → List ℕ
unmet_line c past script line test what got =
    object_line (codes "unmet")
    (time_member (time c past)
    ∷ member (codes "slot") (last_slot_number (finished_slot_count past))
    ∷ member (codes "script") (printable_text script)
    ∷ member (codes "line") (decimal line)
    ∷ member (codes "test") (test_shown test)
    ∷ member (codes "what") (printable_text what)
    ∷ member (codes "got") (printable_text got)
    ∷ [])

abbrev pub unmet_object : Parts → List LogEntry → Unmet → List ℕ
unmet_object c past unmet =
    unmet_line c past unmet.script.now unmet.line (option_map (λ t. t.now) unmet.test) unmet.what.now unmet.got.now

-- the end of a run: its time, its finished slots, and its checks, refused steps and messages in numbers
abbrev pub end_line : Parts → List LogEntry → Counts → List ℕ
end_line c past n =
    object_line (codes "end")
    (time_member (time c past)
    ∷ member (codes "slots") (decimal (finished_slot_count past))
    ∷ member (codes "expected") (decimal n.expected)
    ∷ member (codes "unmet") (decimal n.unmet)
    ∷ member (codes "refused") (decimal n.refused)
    ∷ member (codes "lost") (decimal n.lost)
    ∷ member (codes "waiting") (decimal n.waiting)
    ∷ [])

-- ---- what is kept of a history for the objects of later entries: its track, and the number of the last
-- message of each host that was sent or lost
pub record ObjectTrackData : Type 0 where
  pub track : TrackData
  pub last : List ℕ

pub record IsObjectTrackOf (c : Parts) (past : List LogEntry) (t : ObjectTrackData) : Type 0 where
  pub track : t.track ≡ track_of c past
  pub last : AreCounts (settled_count past) t.last

-- something holds for the entries that were read
abbrev pub IfObjectsOf : Parts → ObjectTrackData → (List LogEntry → Type 0) → Type 0
IfObjectsOf c t holds = (past : List LogEntry) → IsObjectTrackOf c past t → holds past
