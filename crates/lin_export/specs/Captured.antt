-- What a capture is read as: packets, and of these the good frames.
use Rattle.std.specs.Prelude.{◌≡◌, ℕ, ◌+◌, ◌*◌, ◌/◌, ◌%◌, ◌^◌, ◌≤◌, ◌<◌, ◌==◌, Bool, ◌&&◌}
use Rattle.std.specs.Prelude.{if◌then◌else◌, All, List, [], ◌∷◌, ◌++◌, drop, flat_map, reverse}
use Rattle.std.specs.Prelude.{slice_index, take}
use Rattle.std.specs.Option.{option_map_or}
use Rattle.lin_parts.specs.declared.parts.Parts.{Parts}
use Rattle.lin_core.specs.History.{events, good_bytes, time}
use Rattle.lin_core.specs.declared.event.Event.{Event}
use Rattle.lin_core.specs.declared.event.Event.TheVariants.{Seen}
use Rattle.lin_core.specs.declared.log.LogEntry.{LogEntry}
use Rattle.lin_export.specs.Pcap.{file_header, packet, pcap}

-- a packet by its time in microseconds and its bytes
pub record Packet : Type 0 where
  pub at : ℕ
  pub body : List ℕ

abbrev pub packet_bytes : Packet → List ℕ
packet_bytes p = packet p.at p.body

-- whether a packet is a frame (message type 0) without errors
abbrev pub is_good_frame : List ℕ → Bool
is_good_frame body = slice_index body 4 / 4 % 4 == 0 && slice_index body 7 == 0

-- the data and the checksum of a frame
abbrev pub answer_in : List ℕ → List ℕ
answer_in body = take (slice_index body 4 / 16) (drop 8 body) ++ slice_index body 6 ∷ []

abbrev pub good_answer : Packet → List (List ℕ)
good_answer p = if is_good_frame p.body then answer_in p.body ∷ [] else []

-- the response of a slot, where the event says that it was seen good
abbrev pub seen_answer : Event → List (List ℕ)
seen_answer (Seen how) = option_map_or (λ answer. answer ∷ []) (good_bytes how) []
seen_answer event = []

abbrev pub seen_answers : List LogEntry → List (List ℕ)
seen_answers log = flat_map (λ (e : LogEntry). flat_map seen_answer (events e)) log

-- from one time on up to another, times never fall
abbrev pub NeverFall : ℕ → List Packet → ℕ → Type 0
NeverFall from [] to = from ≤ to
NeverFall from (p ∷ ps) to = (from ≤ p.at) × NeverFall p.at ps to

-- a number as it stands in four bytes, the lowest first, and the time of a packet as it stands in
-- its bytes, in microseconds
abbrev pub word_in : List ℕ → ℕ
word_in bytes =
    slice_index bytes 0 + 256 * slice_index bytes 1 + 65536 * slice_index bytes
    2 + 16777216 * slice_index bytes 3

abbrev pub time_in : List ℕ → ℕ
time_in bytes = 1000000 * word_in bytes + word_in (drop 4 bytes)

-- Of a history, the capture has packets whose times never fall, as they stand in their bytes in one
-- of less than 2^32 seconds; its good frames have the data and the checksums that were seen good,
-- in order.
pub record IsCaptured (c : Parts) (past : List LogEntry) : Type 0 where
  pub packets : List Packet
  pub bytes : pcap c (reverse past) ≡ file_header ++ flat_map packet_bytes packets
  pub answers : flat_map good_answer packets ≡ seen_answers (reverse past)
  pub times : NeverFall 0 packets (time c past)
  pub read : time c past < 2 ^ 32 * 1000000
      → All (λ (p : Packet). time_in (packet_bytes p) ≡ p.at) packets
