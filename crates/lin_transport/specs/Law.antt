-- What is read of one piece, of messages that are sent whole, and of one that a reset cuts.
use Rattle.std.specs.Prelude.{◌≡◌, ◌↔◌, ℕ, ◌≤◌, ◌<◌, IsTrue, true, List, [], ◌∷◌, ◌++◌, All}
use Rattle.std.specs.Prelude.{length, take, drop, map, slice_index_or, Some}
use Rattle.lin_transport.specs.Transport.{functional, needed_frame, first_frames, frames, frame_count}
use Rattle.lin_transport.specs.Transport.{CanSend}
use Rattle.lin_transport.specs.Transport.{Ear, looks_at, Heard, message_in, messages_to}
use Rattle.lin_transport.specs.Transport.{all_heard, messages_for}
use Rattle.lin_transport.specs.Transport.Heard.{Frame, Reset}

-- a frame has these bytes first; those after them are unused and have any value
abbrev pub HasFirst : List ℕ → List ℕ → Type 0
HasFirst bytes frame = (unused : List ℕ) × (frame ≡ bytes ++ unused)

-- the first frames of a piece are those of a message to an address, unused bytes apart
pub record BeginsWith (nad : ℕ) (m : List ℕ) (piece : List (List ℕ)) : Type 0 where
  pub can : CanSend m
  pub enough : frame_count (length m) ≤ length piece
  pub frames : (k : ℕ) → k < frame_count (length m)
      → HasFirst (needed_frame nad m k) (slice_index_or piece k [])

-- frames of 8 bytes are read as a message exactly where they begin with its own
abbrev pub ReadsFirstFrames : ℕ → List ℕ → List (List ℕ) → Type 0
ReadsFirstFrames nad m piece =
    All (λ f. length f ≡ 8) piece → (message_in nad piece ≡ Some m) ↔ BeginsWith nad m piece

-- what was heard, the newest first, once these frames follow, the oldest first
abbrev pub heard_after : List Heard → List (List ℕ) → List Heard
heard_after heard [] = heard
heard_after heard (f ∷ fs) = heard_after (Frame f ∷ heard) fs

-- a message on its way: the address of its frames, and its bytes
pub record Addressed : Type 0 where
  pub nad : ℕ
  pub bytes : List ℕ

-- a receiver is meant, by its own address or by the functional one, and the message can be sent so:
-- to all at once one of 1 to 6 bytes
pub record IsFor (e : Ear) (m : Addressed) : Type 0 where
  pub heard : IsTrue (looks_at e m.nad)
  pub can : CanSend m.bytes
  pub short : e.all ≡ true → m.nad ≡ functional → length m.bytes ≤ 6

-- the frames of messages, one message after the other
abbrev pub frames_of_all : List Addressed → List (List ℕ)
frames_of_all [] = []
frames_of_all (m ∷ ms) = frames m.nad m.bytes ++ frames_of_all ms

-- their bytes
abbrev pub bytes_of_all : List Addressed → List (List ℕ)
bytes_of_all ms = map (λ m. m.bytes) ms

-- where the frames that a receiver looks at are those of messages, whatever frames of other
-- addresses stand between them, the messages are read
abbrev pub ReadsBack : Ear → List Addressed → List Heard → Type 0
ReadsBack e ms given =
    All (IsFor e) ms → all_heard e given ≡ heard_after [] (frames_of_all ms)
    → messages_for e given ≡ bytes_of_all ms

-- a reset between two of the messages changes nothing
abbrev pub ReadsAcross : Ear → List Addressed → List Addressed → List Heard → Type 0
ReadsAcross e earlier later given =
    All (IsFor e) earlier → All (IsFor e) later
    → all_heard e given ≡ heard_after (Reset ∷ heard_after [] (frames_of_all earlier))
    (frames_of_all later)
    → messages_for e given ≡ bytes_of_all earlier ++ bytes_of_all later

-- a reset after the first k frames of a message, with none, some or all of its other frames after
-- it: exactly that message isn't read
abbrev pub LacksCut : Ear → List Addressed → Addressed → ℕ → ℕ → List Addressed → List Heard
    → Type 0
LacksCut e earlier m k j later given =
    All (IsFor e) earlier → IsFor e m → All (IsFor e) later → 1 ≤ k
    → k < frame_count (length m.bytes)
    → all_heard e given ≡ heard_after
    (Reset ∷ heard_after [] (frames_of_all earlier ++ first_frames m.nad m.bytes k))
    (take j (drop k (frames m.nad m.bytes)) ++ frames_of_all later)
    → messages_for e given ≡ bytes_of_all earlier ++ bytes_of_all later

-- over whatever was heard before: the frames of a message add it
abbrev pub AddsMessage : Ear → Addressed → List Heard → Type 0
AddsMessage e m heard =
    IsFor e m → messages_to e (heard_after heard (frames m.nad m.bytes))
    ≡ messages_to e heard ++ m.bytes ∷ []

-- fewer of them add nothing
abbrev pub AddsNothing : Ear → Addressed → ℕ → List Heard → Type 0
AddsNothing e m k heard =
    IsFor e m → k < frame_count (length m.bytes)
    → messages_to e (heard_after heard (first_frames m.nad m.bytes k)) ≡ messages_to e heard

-- nor does a reset
abbrev pub ResetAddsNothing : Ear → List Heard → Type 0
ResetAddsNothing e heard = messages_to e (Reset ∷ heard) ≡ messages_to e heard
