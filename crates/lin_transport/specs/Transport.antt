-- Segmented messages as diagnostic frames, and what a receiver reads of frames
-- (ISO 17987-2, transport layer; LIN 2.2A, 3.2).
use Rattle.std.specs.Prelude.{ℕ, zero, suc, ◌+◌, ◌*◌, ◌/◌, ◌%◌, ◌≤◌, Bool, ◌&&◌, ◌||◌}
use Rattle.std.specs.Prelude.{nat_lt, nat_le, eqb, if◌then◌else◌, List, [], ◌∷◌, ◌++◌, map}
use Rattle.std.specs.Prelude.{length, take, drop, slice_index, filter_map, Option, Some, None}
use Rattle.std.specs.List.{concat}
use Rattle.lin_frame.specs.Words.{numbers}
use Rattle.lin_transport.specs.Words.{filled_to, with_last, begin_with}

-- how many frames a message of n bytes has: one single frame up to 6 bytes, otherwise a first frame
-- with 5 of them and consecutive frames with 6 each
abbrev pub frame_count : ℕ → ℕ
frame_count n = if nat_le n 6 then 1 else 1 + n / 6

-- the bytes of frame k that the message m needs: the node address, the PCI, and the frame's part of
-- m. A single frame has the PCI 0x0L with L bytes; a first frame 0x1H with the low length byte
-- after it, for a length of 256 * H + low; consecutive frame k has 0x2C, where C is k modulo 16
abbrev pub needed_frame : ℕ → List ℕ → ℕ → List ℕ
needed_frame nad m zero =
    if nat_le (length m) 6 then nad ∷ length m ∷ m
    else nad ∷ (16 + length m / 256) ∷ (length m % 256) ∷ take 5 m
needed_frame nad m (suc k) = nad ∷ (32 + suc k % 16) ∷ take 6 (drop (5 + 6 * k) m)

-- frame k of a message: 8 data bytes, the unused ones 0xFF
abbrev pub frame : ℕ → List ℕ → ℕ → List ℕ
frame nad m k = filled_to 8 (needed_frame nad m k)

-- the first k frames of a message, in order
abbrev pub first_frames : ℕ → List ℕ → ℕ → List (List ℕ)
first_frames nad m k = map (frame nad m) (numbers k)

-- all its frames
abbrev pub frames : ℕ → List ℕ → List (List ℕ)
frames nad m = first_frames nad m (frame_count (length m))

-- a message of a length that can be sent
pub record CanSend (m : List ℕ) : Type 0 where
  pub some : 1 ≤ length m
  pub few : length m ≤ 4095

-- the functional address: each responder hears it beside its own address, in single frames alone
-- (ISO 17987-2, node addresses)
abbrev pub functional : ℕ
functional = 126

-- a frame that begins a message: a single or first frame, by the high four bits of its PCI (0 or 1)
abbrev pub begins_message : List ℕ → Bool
begins_message f = nat_lt (slice_index f 1) 32

-- what a receiver is given: a frame of 8 data bytes, or a reset, as at a timeout or sleep
pub data Heard : Type 0 where
  Frame : (bytes : List ℕ) → Heard
  Reset : Heard

-- the frames that were heard, cut before each that begins a message and at each reset.
-- What was heard stands the newest first, the pieces and their frames the oldest first
abbrev pub pieces : List Heard → List (List (List ℕ))
pieces [] = [] ∷ []
pieces (Frame f ∷ earlier) =
    if begins_message f then pieces earlier
    ++ (f ∷ []) ∷ [] else with_last (λ p. p ++ f ∷ []) (pieces earlier)
pieces (Reset ∷ earlier) = pieces earlier ++ [] ∷ []

-- how long the message is that a single or first frame begins
abbrev pub length_in : List ℕ → ℕ
length_in f =
    if nat_lt (slice_index f 1) 16
    then slice_index f 1 else 256 * (slice_index f 1 % 16) + slice_index f 2

-- the message bytes that a piece has: what stands after the PCI in a single frame, after the low
-- length byte in a first frame, and after the PCI in those that follow
abbrev pub message_bytes : List (List ℕ) → List ℕ
message_bytes [] = []
message_bytes (f ∷ fs) =
    (if nat_lt (slice_index f 1) 16 then drop 2 f else drop 3 f) ++ concat (map (drop 2) fs)

-- the message whose frames, to this address, a piece begins with, unused bytes apart. Only a
-- message of the first frame's length can be meant, so it is the one of the piece's own bytes
abbrev pub message_in : ℕ → List (List ℕ) → Option (List ℕ)
message_in nad [] = None
message_in nad (f ∷ fs) =
    let m : List ℕ = take (length_in f) (message_bytes (f ∷ fs))
    in if nat_lt 0 (length m)
    && begin_with (f ∷ fs) (map (needed_frame nad m) (numbers (frame_count (length m))))
    then Some m
    else None

-- what a receiver listens to: its own address, and whether also the functional one
pub record Ear : Type 0 where
  pub nad : ℕ
  pub all : Bool

-- whether it looks at frames to an address
abbrev pub looks_at : Ear → ℕ → Bool
looks_at e n = (e.all && eqb n functional) || eqb n e.nad

-- the message that it reads in a piece: where the piece begins with a frame to all, that of this
-- frame alone; otherwise that of the frames to its own address
abbrev pub message_to : Ear → List (List ℕ) → Option (List ℕ)
message_to e [] = None
message_to e (f ∷ fs) =
    if e.all && eqb (slice_index f 0) functional
    then message_in functional (f ∷ []) else message_in e.nad (f ∷ fs)

-- the messages in what was heard, in order
abbrev pub messages_to : Ear → List Heard → List (List ℕ)
messages_to e heard = filter_map (message_to e) (pieces heard)

-- what a receiver has heard once this frame is given to it: it looks only at frames to it
abbrev pub heard_to : Ear → List ℕ → List Heard → List Heard
heard_to e f heard = if looks_at e (slice_index f 0) then Frame f ∷ heard else heard

-- what it has heard of all that it was given
abbrev pub all_heard : Ear → List Heard → List Heard
all_heard e [] = []
all_heard e (Frame f ∷ earlier) = heard_to e f (all_heard e earlier)
all_heard e (Reset ∷ earlier) = Reset ∷ all_heard e earlier

-- the messages that it reads in all that it was given, in order
abbrev pub messages_for : Ear → List Heard → List (List ℕ)
messages_for e given = messages_to e (all_heard e given)
