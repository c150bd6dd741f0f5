-- No promise rests on this: the receivers of the links.
use Rattle.std.specs.Prelude.{◌≡◌, ◌≤◌, ℕ, true, List, [], ◌∷◌, ◌++◌, length, slice_get, slice_set, Option, Some}
use Rattle.std.specs.Prelude.{is_some}
use Rattle.lin_transport.specs.Transport.{Heard, heard_to, messages_to}
use Rattle.lin_transport.specs.Transport.Heard.{Reset}
use Rattle.lin_transport.specs.Receiver.{ear_of, HasHeard, Reads, Reception}
use Rattle.lin_parts.specs.Cluster.{nad, nodes}
use Rattle.lin_core.specs.Links.{Link, ear_on, heard_on}
use Rattle.lin_core.specs.Replies.{link_at}
use Rattle.lin_core.specs.kept.Hosts.{told_to_all}
use Rattle.lin_core.specs.declared.event.Event.{Event}
use Rattle.lin_core.specs.declared.link.Direction.{Direction}
use Rattle.lin_core.specs.declared.link.Direction.TheVariants.{Down, Up}
use Rattle.lin_core.specs.History.{LogEntry, Parts}
use Rattle.lin_core.specs.declared.receivers.Receivers.{Receivers}

-- the receiver of the link in a direction, of a node's two
abbrev pub receiver_in : Direction → Receivers → Reception
receiver_in Down rs = rs.down
receiver_in Up rs = rs.up

abbrev pub opposite : Direction → Direction
opposite Down = Up
opposite Up = Down

-- what it has heard
abbrev pub HasHeardIn : Direction → Receivers → List Heard → Type 0
HasHeardIn dir rs heard = HasHeard (receiver_in dir rs) heard

-- it hears a frame, over what it had heard, and gives this message or none
abbrev pub ReceivesIn : Direction → Receivers → List ℕ → List Heard → Option (List ℕ) → Receivers → Type 0
ReceivesIn dir old frame heard given new =
    Reads (receiver_in dir old) frame heard given (receiver_in dir new)

-- a receiver stands for what the receiver of its link is given
pub record KeepsReceiver (c : Parts) (past : List LogEntry) (l : Link)
    (r : Reception) : Type 0 where
  pub ear_is : ear_of r ≡ ear_on c l
  pub stands : HasHeard r (heard_on c past l)

-- two of each node; those of a node that has no address are never used
pub record KeepsHeard (c : Parts) (past : List LogEntry) (receivers : List Receivers) : Type 0 where
  pub count : length receivers ≡ nodes c
  pub each : (h : ℕ) (rs : Receivers) (d : Direction) → slice_get receivers h ≡ Some rs
      → is_some (nad c h) ≡ true → KeepsReceiver c past (link_at h d) (receiver_in d rs)

-- the receiver of a link hears a frame, and gives this message or none; the others hear nothing
pub record HearsOn (l : Link) (frame : List ℕ) (given : Option (List ℕ))
    (old new : List Receivers) : Type 0 where
  pub was : Receivers
  pub is : Receivers
  pub there : slice_get old l.node ≡ Some was
  pub set : new ≡ slice_set old l.node is
  pub hears : (heard : List Heard) → HasHeardIn l.dir was heard
      → ReceivesIn l.dir was frame heard given is
  pub other : receiver_in (opposite l.dir) is ≡ receiver_in (opposite l.dir) was

-- a receiver that was reset, and both of a node
pub record IsReset (old new : Reception) : Type 0 where
  pub ear : ear_of new ≡ ear_of old
  pub ends : (heard : List Heard) → HasHeard new (Reset ∷ heard)

pub record AreReset (old new : Receivers) : Type 0 where
  pub down : IsReset old.down new.down
  pub up : IsReset old.up new.up

-- what was heard is as before: the room that was made alone may differ
pub record HaveHeardAlike (old new : List Receivers) : Type 0 where
  pub count : length new ≡ length old
  pub each : (h : ℕ) (d : Direction) (was is : Receivers) → slice_get old h ≡ Some was
      → slice_get new h ≡ Some is
      → (ear_of (receiver_in d is) ≡ ear_of (receiver_in d was))
      × ((receiver_in d is).part ≡ (receiver_in d was).part)

-- each receiver down has room for a single frame
abbrev pub HaveRoom : List Receivers → Type 0
HaveRoom rs = (h : ℕ) (r : Receivers) → slice_get rs h ≡ Some r → 1 ≤ r.down.spare

-- a receiver down hears a frame
pub record HearsToo (frame : List ℕ) (was is : Receivers) : Type 0 where
  pub ear : (heard : List Heard) → HasHeard was.down heard → ear_of is.down ≡ ear_of was.down
  pub down : (heard : List Heard) → HasHeard was.down heard
      → HasHeard is.down (heard_to (ear_of was.down) frame heard)
  pub up : is.up ≡ was.up

-- the receiver down of each node with an address hears it
pub record HearAll (c : Parts) (frame : List ℕ) (old new : List Receivers) : Type 0 where
  pub count : length new ≡ length old
  pub each : (h : ℕ) (was is : Receivers) → slice_get old h ≡ Some was → slice_get new h ≡ Some is
      → is_some (nad c h) ≡ true → HearsToo frame was is

-- a frame completes a message for a receiver that has heard this
pub record Completes (frame m : List ℕ) (r : Reception) (heard : List Heard) : Type 0 where
  pub stands : HasHeard r heard
  pub reads : messages_to (ear_of r) (heard_to (ear_of r) frame heard)
      ≡ messages_to (ear_of r) heard ++ m ∷ []

-- it completes this message for the receiver down of each node with an address
abbrev pub CompletesForAll : Parts → List ℕ → List ℕ → List Receivers → (ℕ → List Heard) → Type 0
CompletesForAll c frame m receivers heard =
    (h : ℕ) (r : Receivers) → slice_get receivers h ≡ Some r → is_some (nad c h) ≡ true
    → Completes frame m r.down (heard h)

-- whatever message it so completes, the events by which the nodes are told of it are so
abbrev pub TellsAll : Parts → List ℕ → List Receivers → (List Event → Type 0) → Type 0
TellsAll c frame receivers are =
    (heard : ℕ → List Heard) (m : List ℕ) → CompletesForAll c frame m receivers heard
    → are (told_to_all c m (length receivers))
