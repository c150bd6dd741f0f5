-- A log as a capture file of LIN packets (pcap, link type 212, LINKTYPE_LIN).
use Rattle.std.specs.Prelude.{ℕ, ◌+◌, ◌-◌, ◌*◌, ◌/◌, ◌%◌, ◌==◌, nat_le, if◌then◌else◌, List, []}
use Rattle.std.specs.Prelude.{◌∷◌, ◌++◌, length, replicate}
use Rattle.std.specs.Option.{option_map_or}
use Rattle.lin_frame.specs.declared.sums.SumKind.{SumKind}
use Rattle.lin_frame.specs.declared.sums.SumKind.TheVariants.{Classic, Enhanced}
use Rattle.lin_parts.specs.Cluster.{line_of}
use Rattle.lin_parts.specs.declared.parts.Parts.{Parts}
use Rattle.lin_core.specs.History.{Slot, done, is_sleep_slot, open_slot, seen_of, time}
use Rattle.lin_core.specs.Slots.{model_of}
use Rattle.lin_core.specs.declared.event.Seen.{Seen}
use Rattle.lin_core.specs.declared.event.Seen.TheVariants.{Silent, NoAnswer, Good, Damaged}
use Rattle.lin_core.specs.declared.event.Seen.TheVariants.{Collided}
use Rattle.lin_core.specs.declared.log.LogEntry.{LogEntry}
use Rattle.lin_core.specs.declared.step.Step.{Step}
use Rattle.lin_core.specs.declared.step.Step.TheVariants.{Finish, Wake}
use Rattle.lin_export.specs.Shown.{checksum_in, data_of}
use Rattle.lin_export.specs.Telling.{each_entry}

-- the low 32 bits of a number, the lowest byte first
abbrev pub word_bytes : ℕ → List ℕ
word_bytes n = n % 256 ∷ n / 256 % 256 ∷ n / 65536 % 256 ∷ n / 16777216 % 256 ∷ []

-- microseconds, version 2.4, packets of up to 65,535 bytes, LINKTYPE_LIN
abbrev pub file_header : List ℕ
file_header = word_bytes 0xA1B2C3D4 ++ 2 ∷ 0 ∷ 4 ∷ 0 ∷ [] ++ word_bytes 0 ++ word_bytes 0 ++ word_bytes 65535 ++ word_bytes 212

-- a packet at a time in microseconds: seconds, microseconds, how many bytes were captured, how many
-- there were, and these
abbrev pub packet : ℕ → List ℕ → List ℕ
packet at body =
    word_bytes (at / 1000000) ++ word_bytes (at % 1000000) ++ word_bytes (length body) ++ word_bytes (length body) ++ body

-- the checksum model in the packet's byte 4
abbrev pub model_number : SumKind → ℕ
model_number Classic = 1
model_number Enhanced = 2

-- data bytes with zeros up to 0, 4 or 8
abbrev pub filled_data : List ℕ → List ℕ
filled_data bytes =
    bytes ++ replicate
    ((if length bytes == 0 then 0 else if nat_le (length bytes) 4 then 4 else 8) - length bytes) 0

-- a frame: revision 1; the number of data bytes in the high half of byte 4; header, checksum,
-- errors, data
abbrev pub frame_body : SumKind → ℕ → List ℕ → ℕ → List ℕ
frame_body model header answer errors =
    1 ∷ 0 ∷ 0 ∷ 0 ∷ (16 * length (data_of answer) + model_number model) ∷ header
    ∷ checksum_in answer ∷ errors ∷ filled_data (data_of answer)

-- errors: no response, framing, checksum
abbrev pub no_response : ℕ
no_response = 1

abbrev pub framing : ℕ
framing = 2

abbrev pub bad_checksum : ℕ
bad_checksum = 8

-- a finished slot: its response where it was seen good, and otherwise a frame without data; nothing
-- was on the wire of a silent one
abbrev pub seen_packet : ℕ → SumKind → ℕ → Seen → List ℕ
seen_packet at model header Silent = []
seen_packet at model header NoAnswer = packet at (frame_body model header [] no_response)
seen_packet at model header (Good answer) = packet at (frame_body model header answer 0)
seen_packet at model header Damaged = packet at (frame_body model header [] bad_checksum)
seen_packet at model header Collided = packet at (frame_body model header [] framing)

abbrev pub slot_packet : Parts → ℕ → Slot → List ℕ
slot_packet c at s =
    option_map_or
    (λ header. seen_packet at (model_of c (line_of c s.table s.entry).entry header) header
    (seen_of s)) s.header []

-- an event of the bus (message type 3): the cluster goes to sleep by a frame, or is woken by a
-- signal
abbrev pub bus_event : ℕ → List ℕ
bus_event kind = 1 ∷ 0 ∷ 0 ∷ 0 ∷ 0x4C ∷ 0 ∷ 0 ∷ 0 ∷ 0xB0 ∷ 0xB0 ∷ 0 ∷ kind ∷ []

abbrev pub goes_to_sleep : ℕ
goes_to_sleep = 1

abbrev pub wakes : ℕ
wakes = 4

-- a slot that begins at a time, and at its end another packet where it puts the cluster to sleep
abbrev pub finish_packets : Parts → ℕ → Slot → List ℕ
finish_packets c at s =
    slot_packet c at s
    ++ (if is_sleep_slot s
    then packet (at + (line_of c s.table s.entry).delay_us) (bus_event goes_to_sleep) else [])

-- what a step that was done says on the entries before it; the time before a slot's end is that of
-- its start
abbrev pub step_packets : Parts → List LogEntry → Step → List ℕ
step_packets c past Finish = option_map_or (finish_packets c (time c past)) (open_slot past) []
step_packets c past Wake = packet (time c past) (bus_event wakes)
step_packets c past step = []

abbrev pub packets : Parts → LogEntry → List LogEntry → List ℕ
packets c e past = option_map_or (step_packets c past) (done e) []

-- the capture of a log, the oldest entry first
abbrev pub pcap : Parts → List LogEntry → List ℕ
pcap c log = file_header ++ each_entry (packets c) [] log
