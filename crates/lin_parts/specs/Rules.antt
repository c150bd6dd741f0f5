-- What the parts of every cluster have (ISO 17987-3; LIN 2.2A, section 9), within this project's
-- limits.
use Rattle.std.specs.Prelude.{◌≡◌, ◌≢◌, ◌<◌, ◌≤◌, ℕ, Bool, true, false, ◌==◌, if◌then◌else◌, List}
use Rattle.std.specs.Prelude.{◌++◌, length, map, All, AllPairs, EachIndex, Some, None, IfSome}
use Rattle.std.specs.Prelude.{IsTrue, is_some}
use Rattle.std.specs.List.{AllZip, list_any}
use Rattle.lin_frame.specs.Bits.{fits_place, is_good_layout, has_good_size}
use Rattle.lin_frame.specs.Frame.{pid}
use Rattle.lin_frame.specs.declared.layout.Place.{Place}
use Rattle.lin_frame.specs.declared.value.Value.{Value}
use Rattle.lin_frame.specs.declared.value.Value.TheVariants.{Scalar, Bytes}
use Rattle.lin_parts.specs.Cluster.{nodes, nad, signal_of, frame_of, table_of}
use Rattle.lin_parts.specs.declared.parts.Entry.{Entry}
use Rattle.lin_parts.specs.declared.parts.Entry.TheVariants.{Frame, Sporadic, Event}
use Rattle.lin_parts.specs.declared.parts.Entry.TheVariants.{MasterReq}
use Rattle.lin_parts.specs.declared.parts.Entry.TheVariants.{SlaveResp, Fixed, Quiet}
use Rattle.lin_parts.specs.declared.parts.ErrorSignal.{ErrorSignal}
use Rattle.lin_parts.specs.declared.parts.Identity.{Identity}
use Rattle.lin_parts.specs.declared.parts.Node.{Node}
use Rattle.lin_parts.specs.declared.parts.Parts.{Parts}
use Rattle.lin_parts.specs.declared.parts.Product.{Product}
use Rattle.lin_parts.specs.declared.parts.Signal.{Signal}

-- the diagnostic addresses of responders
abbrev pub IsAddress : ℕ → Type 0
IsAddress address = (1 ≤ address) × (address ≤ 125)

-- two nodes that don't share a diagnostic address
abbrev pub HaveOwnAddresses : Node → Node → Type 0
HaveOwnAddresses m n = (address : ℕ) → m.nad ≡ Some address → n.nad ≢ Some address

-- the commander, which has no address, and 1 to 15 responders, of which each may have one of its
-- own
pub record AreNodes (c : Parts) : Type 0 where
  pub number : (2 ≤ nodes c) × (nodes c ≤ 16)
  pub commander : nad c 0 ≡ None
  pub addresses : All (λ node. IfSome node.nad IsAddress) c.nodes
  pub own_addresses : AllPairs HaveOwnAddresses c.nodes

-- the kind of a value: whether it is an array's
abbrev pub is_array : Value → Bool
is_array (Scalar x) = false
is_array (Bytes xs) = true

-- the place of a signal that begins at a bit
abbrev pub place_at : ℕ → Signal → Place
place_at offset s = record { offset = offset; size = s.size; array = is_array s.initial }

-- at most 1,024 signals: each has a publisher, subscribers that are there, a size that a place may
-- have, and an initial value of that size
pub record AreSignals (c : Parts) : Type 0 where
  pub number : length c.signals ≤ 1024
  pub publishers : All (λ s. s.publisher < nodes c) c.signals
  pub subscribers : All (λ s. All (λ n. n < nodes c) s.subscribers) c.signals
  pub sizes : All (λ s. IsTrue (has_good_size (place_at 0 s))) c.signals
  pub initials : All (λ s. IsTrue (fits_place (place_at 0 s) s.initial)) c.signals

-- a signal of the publisher in a place of its size and kind
pub record IsSignalAt (c : Parts) (publisher : ℕ) (p : Place) (s : ℕ) : Type 0 where
  pub declared : s < length c.signals
  pub published : (signal_of c s).publisher ≡ publisher
  pub place : p ≡ place_at p.offset (signal_of c s)

-- whether an event-triggered frame lists the frame
abbrev pub is_listed : Parts → ℕ → Bool
is_listed c f = list_any (λ e. list_any (λ g. g == f) e.frames) c.events

-- exactly the frames that an event-triggered frame lists have their protected identifier in data
-- byte 0
abbrev pub HasOwnPid : Parts → ℕ → Type 0
HasOwnPid c f =
    (frame_of c f).layout.pid ≡ (if is_listed c f then Some (frame_of c f).pid else None)

-- the protected identifiers of the frames, and of the event-triggered ones
abbrev pub pids : Parts → List ℕ
pids c = map (λ f. f.pid) c.frames ++ map (λ e. e.pid) c.events

-- the protected identifier of an identifier for signals, 0 to 59
pub record CarriesSignals (p : ℕ) : Type 0 where
  pub identifier : ℕ
  pub small : identifier < 60
  pub protected : p ≡ pid identifier

-- each frame has a publisher, a layout, one signal of its publisher for each place, and no signal
-- twice
pub record AreFrames (c : Parts) : Type 0 where
  pub publishers : All (λ f. f.publisher < nodes c) c.frames
  pub layouts : All (λ f. IsTrue (is_good_layout f.layout)) c.frames
  pub signals : All (λ f. AllZip (IsSignalAt c f.publisher) f.layout.places f.signals) c.frames
  pub signals_once : All (λ f. AllPairs ◌≢◌ f.signals) c.frames

-- frames and event-triggered frames have identifiers for signals, no two alike
pub record AreIdentifiers (c : Parts) : Type 0 where
  pub carriers : All CarriesSignals (pids c)
  pub apart : AllPairs ◌≢◌ (pids c)
  pub own_pids : EachIndex c.frames (HasOwnPid c)

-- a frame of the commander, and one of a responder
abbrev pub IsCommanders : Parts → ℕ → Type 0
IsCommanders c f = (f < length c.frames) × ((frame_of c f).publisher ≡ 0)

abbrev pub IsResponders : Parts → ℕ → Type 0
IsResponders c f = (f < length c.frames) × ((frame_of c f).publisher ≢ 0)

-- at most 256 sporadic frames: each has at least one frame, and they are the commander's
pub record AreSporadic (c : Parts) : Type 0 where
  pub number : length c.sporadic ≤ 256
  pub members : All (λ s. 1 ≤ length s.frames) c.sporadic
  pub frames : All (λ s. All (IsCommanders c) s.frames) c.sporadic

-- two frames that different nodes publish
abbrev pub HaveOwnPublishers : Parts → ℕ → ℕ → Type 0
HaveOwnPublishers c f g = (frame_of c f).publisher ≢ (frame_of c g).publisher

-- two frames of as many data bytes
abbrev pub HaveOneSize : Parts → ℕ → ℕ → Type 0
HaveOneSize c f g = (frame_of c f).layout.len ≡ (frame_of c g).layout.len

-- an event-triggered entry
abbrev pub is_event : Entry → Bool
is_event (Event e) = true
is_event entry = false

-- each event-triggered frame has at least one frame, they are of different responders, of one size
-- and of one checksum model, which is the event-triggered frame's, and a table without
-- event-triggered entries resolves their collisions
pub record AreEvents (c : Parts) : Type 0 where
  pub models : All (λ e. All (λ f. (frame_of c f).model ≡ e.model) e.frames) c.events
  pub members : All (λ e. 1 ≤ length e.frames) c.events
  pub frames : All (λ e. All (IsResponders c) e.frames) c.events
  pub own_publishers : All (λ e. AllPairs (HaveOwnPublishers c) e.frames) c.events
  pub sizes : All (λ e. AllPairs (HaveOneSize c) e.frames) c.events
  pub tables : All (λ e. e.table < length c.tables) c.events
  pub resolving : All (λ e. All (λ line. is_event line.entry ≡ false) (table_of c e.table)) c.events

-- what the entry names is there
abbrev pub IsEntry : Parts → Entry → Type 0
IsEntry c (Frame f) = f < length c.frames
IsEntry c (Sporadic k) = k < length c.sporadic
IsEntry c (Event e) = e < length c.events
IsEntry c MasterReq = Unit {0}
IsEntry c SlaveResp = Unit {0}
IsEntry c (Fixed b) = Unit {0}
IsEntry c Quiet = Unit {0}

-- a delay in microseconds
abbrev pub IsDelay : ℕ → Type 0
IsDelay delay = (1 ≤ delay) × (delay ≤ 1000000000)

-- 1 to 256 tables of 1 to 1,024 entries, each with a delay
pub record AreTables (c : Parts) : Type 0 where
  pub number : (1 ≤ length c.tables) × (length c.tables ≤ 256)
  pub lengths : All (λ t. (1 ≤ length t.lines) × (length t.lines ≤ 1024)) c.tables
  pub delays : All (λ t. All (λ line. IsDelay line.delay_us) t.lines) c.tables
  pub entries : All (λ t. All (λ line. IsEntry c line.entry) t.lines) c.tables

-- a scalar signal that the responder publishes, and frames that are there
pub record IsErrorSignal (c : Parts) (e : ErrorSignal) : Type 0 where
  pub responder : (1 ≤ e.node) × (e.node < nodes c)
  pub declared : e.signal < length c.signals
  pub published : (signal_of c e.signal).publisher ≡ e.node
  pub scalar : is_array (signal_of c e.signal).initial ≡ false
  pub frames : All (λ f. f < length c.frames) e.frames

-- the NADs that a responder may have before it is configured (LIN 2.2A, section 9.2.2.2, initial_NAD)
abbrev pub IsInitialNad : ℕ → Type 0
IsInitialNad n = (1 ≤ n) × (n ≤ 127) × (n ≢ 126)

-- the numbers of a product, which aren't the wildcards of requests (LIN 2.2A, section 4.2)
abbrev pub IsProduct : Product → Type 0
IsProduct p = (p.supplier < 0x7FFF) × (p.function < 0xFFFF)

-- what is known of a responder that has an address
pub record IsIdentity (c : Parts) (i : Identity) : Type 0 where
  pub responder : (1 ≤ i.node) × (i.node < nodes c)
  pub addressed : is_some (nad c i.node) ≡ true
  pub initial : IsInitialNad i.initial
  pub product : IfSome i.product IsProduct

-- responders that have an address, by rising number
pub record AreIdentities (c : Parts) (all : List Identity) : Type 0 where
  pub each : All (IsIdentity c) all
  pub rising : AllPairs (λ i j. i.node < j.node) all

-- a speed of at most 20,000 bits per second, and times of at most 1,000 seconds
pub record AreTimes (c : Parts) : Type 0 where
  pub speed : (1 ≤ c.speed) × (c.speed ≤ 20000)
  pub jitter : c.jitter_us ≤ 1000000000
  pub base : c.base_us ≤ 1000000000

-- parts that make a cluster: all of these rules
pub record IsCluster (c : Parts) : Type 0 where
  pub nodes : AreNodes c
  pub signals : AreSignals c
  pub frames : AreFrames c
  pub identifiers : AreIdentifiers c
  pub sporadic : AreSporadic c
  pub events : AreEvents c
  pub tables : AreTables c
  pub errors : All (IsErrorSignal c) c.errors
  pub identities : AreIdentities c c.identities
  pub times : AreTimes c
