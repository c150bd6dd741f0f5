-- Worked examples of findings: a description in which nothing is found, and others that differ in
-- one place.
use Rattle.std.proofs.Common.{◌≡◌, ℕ, List, [], ◌∷◌, false, refl}
use Rattle.std.specs.Prelude.{◌+◌, codes, Some, None}
use Rattle.lin_cluster.specs.Findings.{candidates}
use Rattle.lin_cluster.specs.Identifiers.{ids_twice}
use Rattle.lin_cluster.specs.declared.finding.FindingKind.TheVariants.{SlotTooShort, UnknownName, WrongPublisher, BadId, IdTwice, BadSize, SignalOutside, SignalsOverlap, BadInit, ZeroDelay, BadNad, NadTwice, BadEventFrame, BadSporadic, NestedCollision, EmptyTable, LimitPassed, MixedChecksum}
use Rattle.lin_cluster.specs.Kinds.{finding_at}
use Rattle.lin_parts.specs.declared.description.Attributes.{Attributes}
use Rattle.lin_parts.specs.declared.description.Description.{Description}
use Rattle.lin_parts.specs.declared.description.EventFrame.{EventFrame}
use Rattle.lin_parts.specs.declared.description.Frame.{Frame}
use Rattle.lin_parts.specs.declared.description.Init.TheVariants.{Scalar}
use Rattle.lin_parts.specs.declared.description.Name.{Name}
use Rattle.lin_parts.specs.declared.description.Number.{Number}
use Rattle.lin_parts.specs.declared.description.PlacedSignal.{PlacedSignal}
use Rattle.lin_parts.specs.declared.description.Signal.{Signal}
use Rattle.lin_parts.specs.declared.description.Sporadic.{Sporadic}
use Rattle.lin_parts.specs.declared.description.Table.{Table}
use Rattle.lin_parts.specs.declared.description.TableEntry.{TableEntry}

abbrev pub name : List ℕ → ℕ → ℕ → Name
name text line column = record { text = text; line = line; column = column }

abbrev pub number : ℕ → ℕ → ℕ → Number
number value line column = record { value = value; line = line; column = column }

-- a signal of one line, published by a node
abbrev pub signal : ℕ → List ℕ → ℕ → ℕ → List ℕ → Signal
signal line text size init publisher = record {
  name = name text line 1;
  size = number size line 10;
  init = Scalar (number init line 20);
  publisher = name publisher line 30;
  subscribers = name (codes "cem") line 40 ∷ [];
}

abbrev pub frame : ℕ → List ℕ → ℕ → List ℕ → List PlacedSignal → Frame
frame line text id publisher placed = record {
  name = name text line 1;
  id = number id line 10;
  publisher = name publisher line 20;
  size = number 2 line 30;
  placed = placed;
}

abbrev pub placed : ℕ → ℕ → List ℕ → ℕ → PlacedSignal
placed line column text offset = record { signal = name text line column; offset = number offset line (column + 5) }

abbrev pub entry : ℕ → List ℕ → ℕ → TableEntry
entry line text delay = record { name = name text line 1; has_group = false; delay = number delay line 10 }

abbrev pub level : Signal
level = signal 6 (codes "level") 4 2 (codes "cem")

abbrev pub lkey : Signal
lkey = signal 7 (codes "lkey") 8 0 (codes "lsm")

abbrev pub light : Frame
light = frame 11 (codes "Light") 0 (codes "cem") (placed 11 40 (codes "level") 0 ∷ [])

abbrev pub left : Frame
left = frame 12 (codes "LeftKey") 2 (codes "lsm") (placed 12 40 (codes "lkey") 8 ∷ [])

abbrev pub keys : EventFrame
keys = record { name = name (codes "Keys") 21 1; table = name (codes "Resolve") 21 10; id = number 4 21 20; members = name (codes "LeftKey") 21 30 ∷ [] }

abbrev pub spor : Sporadic
spor = record { name = name (codes "Spor") 16 1; members = name (codes "Light") 16 10 ∷ [] }

abbrev address_of : ℕ → List ℕ → ℕ → Attributes
address_of line node nad = record { node = name node line 1; protocol = None; configured_nad = Some (number nad line 20); response_error = None }

abbrev pub main_table : List TableEntry → Table
main_table entries = record { name = name (codes "Main") 31 1; entries = entries }

abbrev pub resolve : Table
resolve = record { name = name (codes "Resolve") 41 1; entries = entry 42 (codes "LeftKey") 10000 ∷ [] }

-- the commander, one responder, and a frame of each kind
abbrev pub body : Description
body = record {
  speed = number 19200 4 1;
  master = name (codes "cem") 5 1;
  time_base = number 5000 5 10;
  jitter = number 100 5 20;
  slaves = name (codes "lsm") 5 30 ∷ [];
  signals = level ∷ lkey ∷ [];
  frames = light ∷ left ∷ [];
  sporadic = spor ∷ [];
  events = keys ∷ [];
  attributes = address_of 26 (codes "lsm") 1 ∷ [];
  tables = main_table (entry 32 (codes "Spor") 10000 ∷ entry 33 (codes "Keys") 10000 ∷ entry 34 (codes "MasterReq") 10000 ∷ []) ∷ resolve ∷ [];
}

pub nothing-found : candidates body ≡ []
nothing-found = refl

-- a subscriber that is no node
pub unknown-name : candidates (record body { signals = (record level { subscribers = name (codes "ghost") 6 40 ∷ [] }) ∷ lkey ∷ [] }) ≡ finding_at UnknownName 6 40 ∷ []
unknown-name = refl

-- a signal of the responder in a frame of the commander
pub wrong-publisher : candidates (record body { frames = (record light { placed = placed 11 40 (codes "lkey") 0 ∷ [] }) ∷ left ∷ [] }) ≡ finding_at WrongPublisher 11 40 ∷ []
wrong-publisher = refl

-- 59 is the last identifier of signals
pub last-identifier : candidates (record body { frames = (record light { id = number 59 11 10 }) ∷ left ∷ [] }) ≡ []
last-identifier = refl

pub bad-id : candidates (record body { frames = (record light { id = number 60 11 10 }) ∷ left ∷ [] }) ≡ finding_at BadId 11 10 ∷ []
bad-id = refl

-- the event-triggered frame stands after the frame; in the other order the frame is the later one
pub id-twice : candidates (record body { events = (record keys { id = number 2 21 20 }) ∷ [] }) ≡ finding_at IdTwice 21 20 ∷ []
id-twice = refl

pub id-twice-before : candidates (record body { events = (record keys { id = number 2 3 20 }) ∷ [] }) ≡ finding_at IdTwice 12 10 ∷ []
id-twice-before = refl

-- two at one place count as each other's earlier one
pub id-twice-at-one-place : ids_twice (record body { events = (record keys { id = number 2 12 10 }) ∷ [] }) ≡ finding_at IdTwice 12 10 ∷ finding_at IdTwice 12 10 ∷ []
id-twice-at-one-place = refl

-- a scalar of 17 bits at bit 0 of a frame of 16: its initial value is not judged
pub bad-size : candidates (record body { signals = signal 6 (codes "level") 17 70000 (codes "cem") ∷ lkey ∷ [] }) ≡ finding_at BadSize 6 10 ∷ finding_at SignalOutside 11 45 ∷ []
bad-size = refl

-- the last bit of 16, and one beyond
pub last-bit : candidates (record body { frames = (record light { placed = placed 11 40 (codes "level") 12 ∷ [] }) ∷ left ∷ [] }) ≡ []
last-bit = refl

pub signal-outside : candidates (record body { frames = (record light { placed = placed 11 40 (codes "level") 13 ∷ [] }) ∷ left ∷ [] }) ≡ finding_at SignalOutside 11 45 ∷ []
signal-outside = refl

-- bits 0 to 3, then bits 3 to 6 of another signal, then the first signal again at bit 8
pub signals-overlap : candidates (record body { signals = level ∷ lkey ∷ signal 8 (codes "mode") 4 0 (codes "cem") ∷ []; frames = (record light { placed = placed 11 40 (codes "level") 0 ∷ placed 11 60 (codes "mode") 3 ∷ placed 11 80 (codes "level") 8 ∷ [] }) ∷ left ∷ [] }) ≡ finding_at SignalsOverlap 11 65 ∷ finding_at SignalsOverlap 11 85 ∷ []
signals-overlap = refl

pub bad-init : candidates (record body { signals = signal 6 (codes "level") 4 16 (codes "cem") ∷ lkey ∷ [] }) ≡ finding_at BadInit 6 20 ∷ []
bad-init = refl

-- two bytes need 100 + 1,400,000 * 64 / 19,200 = 4,766.7 microseconds, rounded up
pub slot-too-short : candidates (record body { tables = main_table (entry 32 (codes "Spor") 4767 ∷ entry 33 (codes "Spor") 4766 ∷ []) ∷ resolve ∷ [] }) ≡ finding_at (SlotTooShort 4767) 33 1 ∷ []
slot-too-short = refl

pub zero-delay : candidates (record body { tables = main_table (entry 32 (codes "Spor") 0 ∷ []) ∷ resolve ∷ [] }) ≡ finding_at ZeroDelay 32 10 ∷ []
zero-delay = refl

-- the commander's address is not judged
pub bad-nad : candidates (record body { attributes = address_of 26 (codes "lsm") 126 ∷ address_of 27 (codes "cem") 127 ∷ [] }) ≡ finding_at BadNad 26 20 ∷ []
bad-nad = refl

pub nad-twice : candidates (record body { slaves = name (codes "lsm") 5 30 ∷ name (codes "rsm") 5 40 ∷ []; attributes = address_of 26 (codes "cem") 1 ∷ address_of 27 (codes "lsm") 1 ∷ address_of 28 (codes "rsm") 1 ∷ [] }) ≡ finding_at NadTwice 28 20 ∷ []
nad-twice = refl

-- the same frame twice, a sporadic frame, and a frame of the commander of the same size
pub bad-event-frame : candidates (record body { events = (record keys { members = name (codes "LeftKey") 21 30 ∷ name (codes "LeftKey") 21 40 ∷ name (codes "Spor") 21 50 ∷ name (codes "Light") 21 60 ∷ [] }) ∷ [] }) ≡ finding_at BadEventFrame 21 40 ∷ finding_at BadEventFrame 21 50 ∷ finding_at BadEventFrame 21 60 ∷ []
bad-event-frame = refl

pub bad-sporadic : candidates (record body { sporadic = (record spor { members = name (codes "Light") 16 10 ∷ name (codes "LeftKey") 16 20 ∷ [] }) ∷ [] }) ≡ finding_at BadSporadic 16 20 ∷ []
bad-sporadic = refl

pub nested-collision : candidates (record body { events = (record keys { table = name (codes "Main") 21 10 }) ∷ [] }) ≡ finding_at NestedCollision 21 10 ∷ []
nested-collision = refl

pub empty-table : candidates (record body { tables = main_table [] ∷ resolve ∷ [] }) ≡ finding_at EmptyTable 31 1 ∷ []
empty-table = refl

pub no-table : candidates (record body { events = []; tables = [] }) ≡ finding_at EmptyTable 1 1 ∷ []
no-table = refl

-- the limits of time and speed are good, and one more isn't
pub limits : candidates (record body { speed = number 20000 4 1; time_base = number 1000000000 5 10; jitter = number 100 5 20 }) ≡ []
limits = refl

pub limit-passed : candidates (record body { speed = number 20001 4 1; time_base = number 1000000001 5 10 }) ≡ finding_at LimitPassed 4 1 ∷ finding_at LimitPassed 5 10 ∷ []
limit-passed = refl

-- two responders of these versions, each with a frame, and an event-triggered frame that lists both
abbrev of_version : ℕ → List ℕ → List ℕ → Attributes
of_version line node version = record { node = name node line 1; protocol = Some version; configured_nad = None; response_error = None }

abbrev two_keys : List Attributes → Description
two_keys blocks = record body {
  slaves = name (codes "lsm") 5 30 ∷ name (codes "rsm") 5 40 ∷ [];
  signals = level ∷ lkey ∷ signal 8 (codes "rkey") 8 0 (codes "rsm") ∷ [];
  frames = light ∷ left ∷ frame 13 (codes "RightKey") 3 (codes "rsm") (placed 13 40 (codes "rkey") 8 ∷ []) ∷ [];
  events = (record keys { members = name (codes "LeftKey") 21 30 ∷ name (codes "RightKey") 21 40 ∷ [] }) ∷ [];
  attributes = blocks;
}

pub mixed-checksum : candidates (two_keys (of_version 26 (codes "lsm") (codes "1.3") ∷ of_version 27 (codes "rsm") (codes "2.2") ∷ [])) ≡ finding_at MixedChecksum 21 40 ∷ []
mixed-checksum = refl

pub one-checksum : candidates (two_keys (of_version 26 (codes "lsm") (codes "1.3") ∷ of_version 27 (codes "rsm") (codes "1.2") ∷ [])) ≡ []
one-checksum = refl

-- the commander reads both keys
pub commander-of-lin-1 : candidates (two_keys (of_version 26 (codes "lsm") (codes "1.3") ∷ of_version 27 (codes "cem") (codes "1.3") ∷ [])) ≡ []
commander-of-lin-1 = refl
