-- What a receiver holds, and for which frames and resets it stands.
use Rattle.std.specs.Prelude.{◌≡◌, ℕ, suc, ◌+◌, ◌*◌, ◌/◌, ◌%◌, ◌≤◌, ◌<◌, ⊤, ◌≢◌, Bool, true}
use Rattle.std.specs.Prelude.{if◌then◌else◌, List, [], ◌∷◌, ◌++◌, length, slice_index}
use Rattle.std.specs.Prelude.{Option, Some, None, option_map, option_to_list}
use Rattle.std.specs.Global.{Vec}
use Rattle.lin_transport.specs.Transport.{Heard, Ear, functional, begins_message, first_frames, message_in}
use Rattle.lin_transport.specs.Transport.{all_heard, message_to, messages_for, messages_to, heard_to}
use Rattle.lin_transport.specs.Transport.Heard.{Frame, Reset}

-- a message of which only a part has come: that part's bytes, and the length of the message
pub record Part : Type 0 where
  pub bytes : List ℕ
  pub size : ℕ

-- the address at which a receiver listens, its partial message, whether it also listens to the
-- functional address, and for how many single frames room was made
pub record Reception : Type 0 where
  pub nad : ℕ
  pub part : Option Part
  pub all : Bool
  pub spare : ℕ

-- what it listens to
abbrev pub ear_of : Reception → Ear
ear_of r = record { nad = r.nad; all = r.all }

-- its own address isn't one that all hear
abbrev pub IsOwn : Ear → Type 0
IsOwn e = e.all ≡ true → e.nad ≢ functional

-- the frames after the last cut, the oldest first
abbrev pub current : List Heard → List (List ℕ)
current [] = []
current (Frame f ∷ earlier) = if begins_message f then f ∷ [] else current earlier ++ f ∷ []
current (Reset ∷ earlier) = []

-- nothing is partial: these frames read as the same message, or as none, whatever comes after them
abbrev pub AreOver : Ear → List (List ℕ) → Type 0
AreOver e [] = ⊤
AreOver e (f ∷ fs) = (more : List (List ℕ)) → message_to e (f ∷ fs ++ more) ≡ message_to e (f ∷ fs)

-- a message is partial: these frames are the first ones of each message that begins with the part's
-- bytes and has its length, and it has more
pub record AreFirst (nad : ℕ) (part : Part) (fs : List (List ℕ)) : Type 0 where
  pub long : 7 ≤ part.size
  pub few : part.size ≤ 4095
  pub consecutive : ℕ
  pub bytes : length part.bytes ≡ 5 + 6 * consecutive
  pub more : 5 + 6 * consecutive < part.size
  pub frames : (rest : List ℕ) → length part.bytes + length rest ≡ part.size
      → fs ≡ first_frames nad (part.bytes ++ rest) (suc consecutive)

abbrev pub Holds : Ear → Option Part → List (List ℕ) → Type 0
Holds e None fs = AreOver e fs
Holds e (Some part) fs = IsOwn e × AreFirst e.nad part fs

-- the receiver has heard this, the newest first
abbrev pub HasHeard : Reception → List Heard → Type 0
HasHeard r heard = Holds (ear_of r) r.part (current heard)

-- the bytes of a message, where there is one
abbrev pub bytes_given : Option (Vec ℕ) → Option (List ℕ)
bytes_given message = option_map (λ m. m.items) message

-- what a receiver gives for a frame, over what it had heard: with the frame, it reads as many
-- messages more as it gave
pub record Reads (old : Reception) (frame : List ℕ) (heard : List Heard) (given : Option (List ℕ))
    (new : Reception) : Type 0 where
  pub ear : ear_of new ≡ ear_of old
  pub stands : HasHeard new (heard_to (ear_of old) frame heard)
  pub reads : messages_to (ear_of old) (heard_to (ear_of old) frame heard)
      ≡ messages_to (ear_of old) heard ++ option_to_list given

-- the receiver has heard what is its own of all that was sent
abbrev pub HasHeardOwn : Reception → List Heard → Type 0
HasHeardOwn r heard = HasHeard r (all_heard (ear_of r) heard)

-- with one frame more, what is read of all that was sent has this message more, or none
abbrev pub AddsRead : Ear → List ℕ → List Heard → Option (List ℕ) → Type 0
AddsRead e frame heard given =
    messages_for e (Frame frame ∷ heard) ≡ messages_for e heard ++ option_to_list given

-- a frame that begins a piece is read as this message or as none, whatever comes after it
pub record IsReadAs (frame : List ℕ) (given : Option (List ℕ)) : Type 0 where
  pub reads : (more : List (List ℕ)) → message_in (slice_index frame 0) (frame ∷ more) ≡ given

-- what is held of one frame that begins a piece, by the address that the frame has
abbrev pub HoldsOne : ℕ → Option Part → List ℕ → Type 0
HoldsOne nad None f = (more : List (List ℕ)) → message_in nad (f ∷ more) ≡ message_in nad (f ∷ [])
HoldsOne nad (Some part) f = AreFirst nad part (f ∷ [])

-- a frame that begins a piece leaves this partial message or none, and isn't a message itself
pub record IsBegun (frame : List ℕ) (new : Option Part) : Type 0 where
  pub holds : HoldsOne (slice_index frame 0) new frame
  pub reads : message_in (slice_index frame 0) (frame ∷ []) ≡ None

-- with one more frame after these, what is partial then, and what is read more
pub record IsContinued (e : Ear) (frame : List ℕ) (fs : List (List ℕ)) (given : Option (List ℕ))
    (new : Option Part) : Type 0 where
  pub holds : Holds e new (fs ++ frame ∷ [])
  pub reads : option_to_list (message_to e (fs ++ frame ∷ []))
      ≡ option_to_list (message_to e fs) ++ option_to_list given

-- the same over whatever was partial so, for a frame to the receiver's own address
abbrev pub ContinuesPart : Option Part → List ℕ → Option (List ℕ) → Option Part → Type 0
ContinuesPart old frame given new =
    (e : Ear) (fs : List (List ℕ)) → IsOwn e → slice_index frame 0 ≡ e.nad → Holds e old fs
    → IsContinued e frame fs given new

-- a partial message as it is kept: the buffer has room for all of it, and the counter is that of
-- the next consecutive frame
pub record IsPartialMessage (bytes : List ℕ) (size counter capacity : ℕ) : Type 0 where
  pub more : length bytes < size
  pub full : length bytes % 6 ≡ 5
  pub room : size ≤ capacity
  pub counts : counter ≡ (1 + length bytes / 6) % 16
