-- A log with names: its text, in which numbers of nodes, signals and tables are names, with lines
-- that say what frames and slots mean, and where that is told what values mean.
-- A number that names nothing, in a step that is refused, stays a number.
use Rattle.std.specs.Prelude.{ℕ, ◌+◌, ◌*◌, ◌/◌, ◌%◌, ◌==◌, if◌then◌else◌, List, [], ◌∷◌}
use Rattle.std.specs.Prelude.{◌++◌, map, flat_map, codes, drop, find, reverse, take, zip, slice_index}
use Rattle.std.specs.Prelude.{Option, Some, None, length, nat_lt}
use Rattle.std.specs.Option.{option_to_list, option_map_or}
use Rattle.lin_frame.specs.Bits.{unpacked_value}
use Rattle.lin_frame.specs.declared.layout.Place.{Place}
use Rattle.lin_frame.specs.declared.value.Value.{Value}
use Rattle.lin_parts.specs.Cluster.{entry_name, frame_name, frame_of, line_of, node_of}
use Rattle.lin_parts.specs.Cluster.{signal_of, sporadic_of}
use Rattle.lin_parts.specs.declared.parts.Parts.{Parts}
use Rattle.lin_parts.specs.declared.parts.Entry.{Entry}
use Rattle.lin_parts.specs.declared.parts.Entry.TheVariants.{Sporadic}
use Rattle.lin_core.specs.History.{Slot, header_is, open_slot, time}
use Rattle.lin_core.specs.Slots.{node_with}
use Rattle.lin_core.specs.declared.event.Event.{Event}
use Rattle.lin_core.specs.declared.event.Event.TheVariants as event
use Rattle.lin_core.specs.declared.event.Seen.TheVariants.{Good}
use Rattle.lin_core.specs.declared.log.LogEntry.{LogEntry}
use Rattle.lin_core.specs.declared.reply.Refusal.{Refusal}
use Rattle.lin_core.specs.declared.reply.Reply.{Reply}
use Rattle.lin_core.specs.declared.reply.Reply.TheVariants.{Done, Refused}
use Rattle.lin_core.specs.declared.step.Step.{Step}
use Rattle.lin_core.specs.declared.step.Step.TheVariants.{Finish, Write}
use Rattle.lin_core.specs.Tables.{refusal_number, refusal_word}
use Rattle.lin_log.specs.Language.{named_language}
use Rattle.lin_log.specs.Words.{Word, event_words, log_text, reply_line, spaced_word, word_text}
use Rattle.lin_log.specs.Words.Word.{Fixed, Hex, Number, Raw, Said}
use Rattle.lin_values.specs.Coded.{CodedData}
use Rattle.lin_values.specs.Meaning.{meaning}
use Rattle.lin_values.specs.Shown.{shown}
use Rattle.lin_export.specs.Shown.{slot_frame}
use Rattle.lin_export.specs.WhereTold.{where_told}

-- the frame of a sporadic entry with a header
abbrev pub sporadic_frame_under : Parts → Entry → Option ℕ → Option ℕ
sporadic_frame_under c (Sporadic k) header =
    find (λ f. header_is (frame_of c f).pid header) (sporadic_of c k)
sporadic_frame_under c entry header = None

-- an opened slot: after its numbers what its entry is for
abbrev pub slot_names : Parts → Event → List Word
slot_names c (event.Slot table entry header) =
    Said (entry_name c (line_of c table entry).entry)
    ∷ map (λ f. Said (frame_name c f))
    (option_to_list (sporadic_frame_under c (line_of c table entry).entry header))
slot_names c other = []

-- what an event is called, and its parts
abbrev pub named_event : Parts → Event → List Word
named_event c e = event_words e ++ slot_names c e

-- a good frame of signals: its name, and each signal with its value, in the order of the places
abbrev pub signal_words : Parts → List ℕ → ℕ × Place → List Word
signal_words c answer p =
    Said (signal_of c p.0).name ∷ Raw (unpacked_value p.1 (take 8 answer)) ∷ []

abbrev pub frame_signal_words : Parts → ℕ → List ℕ → List Word
frame_signal_words c f answer =
    flat_map (signal_words c answer) (zip (frame_of c f).signals (frame_of c f).layout.places)

abbrev pub frame_words : Parts → ℕ → List ℕ → List Word
frame_words c f answer =
    Fixed (codes "frame") ∷ Said (frame_name c f) ∷ frame_signal_words c f answer

-- a good frame of a message (ISO 17987-2, protocol control information): the node with its address,
-- or the number of an address that no node has, as 126 of all responders: no name begins with a digit
abbrev pub who_word : Parts → ℕ → Word
who_word c address =
    option_map_or (λ n. Said (node_of c n).name) (node_with c address) (Number address)

abbrev pub control_words : ℕ → ℕ → List Word
control_words control length =
    if control / 16 == 0 then Fixed (codes "single") ∷ Number (control % 16) ∷ []
    else (if control / 16 == 1 then Fixed (codes "first") ∷ Number (256 * (control % 16) + length) ∷ []
    else (if control / 16 == 2 then Fixed (codes "next") ∷ Number (control % 16) ∷ []
    else Fixed (codes "other") ∷ Hex (control ∷ []) ∷ []))

abbrev pub transport_words : Parts → List ℕ → List ℕ → List Word
transport_words c way answer =
    Fixed (codes "transport") ∷ who_word c (slice_index answer 0) ∷ Fixed way
    ∷ control_words (slice_index answer 1) (slice_index answer 2)

-- what a master request is; one whose first byte is 0 puts the cluster to sleep
abbrev pub request_words : Parts → List ℕ → List Word
request_words c answer =
    if slice_index answer 0 == 0 then Fixed (codes "transport") ∷ Fixed (codes "sleep") ∷ []
    else transport_words c (codes "down") answer

-- what a response of a master request or a slave response is
abbrev pub transport : Parts → Option ℕ → List ℕ → Option (List Word)
transport c header answer =
    if header_is 0x3C header then Some (request_words c answer)
    else (if header_is 0x7D header then Some (transport_words c (codes "up") answer) else None)

abbrev pub good_words : Parts → List ℕ → Slot → Option (List Word)
good_words c answer s =
    option_map_or
    (λ f. Some (frame_words c f answer))
    (slot_frame c (line_of c s.table s.entry).entry s) (transport c s.header answer)

-- what stands after an event, in the open slot
abbrev pub words_after_event : Parts → Option Slot → Event → Option (List Word)
words_after_event c o (event.Seen (Good answer)) = option_map_or (good_words c answer) o None
words_after_event c o e = None

-- ---- what values mean
-- the line of a value of a signal, where it means something
abbrev pub value_lines : Parts → CodedData → ℕ → Value → List (List Word)
value_lines c k s v =
    option_map_or
    (λ m. (Fixed (codes "value") ∷ Said (signal_of c s).name ∷ Said (shown m) ∷ []) ∷ [])
    (meaning k s v) []

-- the signals of a frame, in the order of the places
abbrev pub place_values : Parts → CodedData → List ℕ → ℕ × Place → List (List Word)
place_values c k answer p = value_lines c k p.0 (unpacked_value p.1 (take 8 answer))

abbrev pub frame_values : Parts → CodedData → List ℕ → ℕ → List (List Word)
frame_values c k answer f =
    flat_map (place_values c k answer) (zip (frame_of c f).signals (frame_of c f).layout.places)

-- those of a slot that was seen good, where it has a frame of signals
abbrev pub slot_values : Parts → CodedData → List ℕ → Slot → List (List Word)
slot_values c k answer s =
    option_map_or
    (frame_values c k answer) (slot_frame c (line_of c s.table s.entry).entry s) []

abbrev pub seen_values : Parts → CodedData → Option Slot → Event → List (List Word)
seen_values c k o (event.Seen (Good answer)) = option_map_or (slot_values c k answer) o []
seen_values c k o e = []

abbrev pub told_values : Parts → Option CodedData → Option Slot → Event → List (List Word)
told_values c k o e = where_told k (λ d. seen_values c d o e)

-- the value of a write that was done
abbrev pub written_values : Parts → CodedData → Step → List (List Word)
written_values c k (Write by signal v) =
    if nat_lt signal (length c.signals) then value_lines c k signal v else []
written_values c k step = []

-- ---- entries
abbrev pub event_lines : Parts → Option CodedData → Option Slot → Event → List (List Word)
event_lines c k o e =
    named_event c e ∷ (option_to_list (words_after_event c o e) ++ told_values c k o e)

-- after the lines of a finish, the time in microseconds
abbrev pub time_words : Step → ℕ → Option (List Word)
time_words Finish at = Some (Fixed (codes "time") ∷ Number at ∷ [])
time_words step at = None

-- the number and the name of a refusal
abbrev pub refusal_words : Refusal → List Word
refusal_words r =
    Fixed (codes "refused") ∷ Number (refusal_number r) ∷ Fixed (refusal_word r) ∷ []

abbrev pub lines_of_reply : Parts → Option CodedData → LogEntry → List LogEntry → Reply
    → List (List Word)
lines_of_reply c k e past (Done events) =
    where_told k (λ d. written_values c d e.step)
    ++ (flat_map (event_lines c k (open_slot past)) events
    ++ option_to_list (time_words e.step (time c (e ∷ past))))
lines_of_reply c k e past (Refused r) =
    refusal_words r ∷ []

abbrev pub reply_lines : Parts → Option CodedData → LogEntry → List LogEntry
    → List (List Word)
reply_lines c k e past = lines_of_reply c k e past e.reply

-- words with names, each after a space
abbrev pub named_words : Parts → List Word → List ℕ
named_words c words = flat_map spaced_word (map (word_text (named_language c)) words)

-- a line of a reply with names
abbrev pub named_line : Parts → List Word → List ℕ
named_line c words = reply_line (named_language c) words

abbrev pub lines_with_names : Parts → List (List Word) → List ℕ
lines_with_names c lines = flat_map (named_line c) lines

-- entries with names, the oldest first, each on those before it, which stand the newest first
abbrev pub named_entries : Parts → Option CodedData → List LogEntry → List LogEntry → List ℕ
named_entries c k past entries = log_text (named_language c) (reply_lines c k) past entries

-- the entries of a log from one on
abbrev pub named_from : Parts → Option CodedData → List LogEntry → ℕ → List ℕ
named_from c k log from = named_entries c k (reverse (take from log)) (drop from log)

-- the log with names, the oldest entry first
abbrev pub named_log : Parts → Option CodedData → List LogEntry → List ℕ
named_log c k log = named_entries c k [] log
