-- Worked examples of warnings: a description of which nothing is warned, and others that differ in
-- one place.
use Rattle.std.proofs.Common.{◌≡◌, ℕ, List, [], ◌∷◌, refl}
use Rattle.std.specs.Prelude.{codes, Some, None}
use Rattle.lin_cluster.specs.Kinds.{finding_at}
use Rattle.lin_cluster.specs.Lint.{lints}
use Rattle.lin_cluster.specs.declared.finding.FindingKind.TheVariants.{UnplacedSignal, UnusedFrame, UnscheduledFrame, NoSubscriber, OwnSubscriber, OffTimeBase, NoAddress, BadResponseError, BadConfigurable, EventMemberBeside, SporadicMemberBeside, UnresolvedMember, ResolvingEntry}
use Rattle.lin_cluster.specs.declared.lints.configurable.Configurable.{Configurable}
use Rattle.lin_parts.specs.declared.description.Attributes.{Attributes}
use Rattle.lin_parts.specs.declared.description.Description.{Description}
use Rattle.lin_parts.specs.declared.description.Frame.{Frame}
use Rattle.lin_parts.specs.declared.description.Signal.{Signal}
use Rattle.lin_cluster.proofs.FindingsRows.{name, number, signal, frame, placed, entry, main_table, body, level, lkey, light, left, resolve}

-- a bit that the responder publishes
abbrev fault : Signal
fault = signal 8 (codes "fault") 1 0 (codes "lsm")

abbrev error : Frame
error = frame 13 (codes "Error") 3 (codes "lsm") (placed 13 40 (codes "fault") 0 ∷ [])

abbrev tells : List ℕ → Attributes
tells text = record { node = name (codes "lsm") 26 1; protocol = None; configured_nad = Some (number 1 26 20); response_error = Some (name text 26 40) }

-- that of the responder, with its error, which the commander subscribes
abbrev whole : Description
whole = record body {
  signals = (record level { subscribers = name (codes "lsm") 6 40 ∷ [] }) ∷ lkey ∷ fault ∷ [];
  frames = light ∷ left ∷ error ∷ [];
  attributes = tells (codes "fault") ∷ [];
  tables = main_table (entry 32 (codes "Spor") 10000 ∷ entry 33 (codes "Keys") 10000 ∷ entry 34 (codes "MasterReq") 10000 ∷ entry 35 (codes "Error") 10000 ∷ []) ∷ resolve ∷ [];
}

abbrev listed : List ℕ → List Configurable
listed text = record { node = name (codes "lsm") 26 1; frames = name text 27 5 ∷ [] } ∷ []

-- frames that the responder publishes, or of which it subscribes a signal, and such as list one
pub nothing-warned : lints whole [] (listed (codes "Keys")) ≡ []
nothing-warned = refl

pub read-by-the-node : lints whole [] (listed (codes "Spor")) ≡ []
read-by-the-node = refl

pub unplaced-signal : lints (record whole { frames = light ∷ left ∷ (record error { placed = [] }) ∷ [] }) [] [] ≡ finding_at UnplacedSignal 8 1 ∷ []
unplaced-signal = refl

-- where a frame outside of the description has it, it isn't
pub placed-elsewhere : lints (record whole { frames = light ∷ left ∷ (record error { placed = [] }) ∷ [] }) (name (codes "fault") 61 40 ∷ []) [] ≡ []
placed-elsewhere = refl

-- the responder's error in no table
pub unused-frame : lints (record whole { tables = main_table (entry 32 (codes "Spor") 10000 ∷ entry 33 (codes "Keys") 10000 ∷ []) ∷ resolve ∷ [] }) [] [] ≡ finding_at UnusedFrame 13 1 ∷ []
unused-frame = refl

-- the table of members that settling adds doesn't count
pub unscheduled-frame : lints (record whole { tables = main_table (entry 32 (codes "Spor") 10000 ∷ entry 33 (codes "Error") 10000 ∷ []) ∷ record { name = name (codes "Keys.members") 21 20; entries = entry 34 (codes "Keys") 10001 ∷ [] } ∷ [] }) [] [] ≡ finding_at UnscheduledFrame 21 1 ∷ []
unscheduled-frame = refl

pub no-subscriber : lints (record whole { signals = (record level { subscribers = [] }) ∷ lkey ∷ fault ∷ [] }) [] [] ≡ finding_at NoSubscriber 6 1 ∷ []
no-subscriber = refl

pub own-subscriber : lints (record whole { signals = (record level { subscribers = name (codes "lsm") 6 40 ∷ name (codes "cem") 6 50 ∷ [] }) ∷ lkey ∷ fault ∷ [] }) [] [] ≡ finding_at OwnSubscriber 6 50 ∷ []
own-subscriber = refl

-- with a time base of 5 ms
pub off-time-base : lints (record whole { tables = main_table (entry 32 (codes "Spor") 10000 ∷ entry 33 (codes "Keys") 15000 ∷ entry 34 (codes "Error") 11000 ∷ []) ∷ resolve ∷ [] }) [] [] ≡ finding_at OffTimeBase 34 10 ∷ []
off-time-base = refl

pub no-address : lints (record whole { attributes = (record (tells (codes "fault")) { configured_nad = None }) ∷ [] }) [] [] ≡ finding_at NoAddress 5 30 ∷ []
no-address = refl

-- where no table has a diagnostic frame, no address is needed
pub no-address-needed : lints (record whole { attributes = (record (tells (codes "fault")) { configured_nad = None }) ∷ []; tables = main_table (entry 32 (codes "Spor") 10000 ∷ entry 33 (codes "Keys") 10000 ∷ entry 35 (codes "Error") 10000 ∷ []) ∷ resolve ∷ [] }) [] [] ≡ []
no-address-needed = refl

-- a signal of 8 bits; one of the commander; none
pub wide-error : lints (record whole { attributes = tells (codes "lkey") ∷ [] }) [] [] ≡ finding_at BadResponseError 26 40 ∷ []
wide-error = refl

pub error-of-another : lints (record whole { attributes = tells (codes "level") ∷ [] }) [] [] ≡ finding_at BadResponseError 26 40 ∷ []
error-of-another = refl

pub unknown-error : lints (record whole { attributes = tells (codes "faults") ∷ [] }) [] [] ≡ finding_at BadResponseError 26 40 ∷ []
unknown-error = refl

-- of a responder of SAE J2602 also a status byte, but no signal of 4 bits
abbrev of_j2602 : List ℕ → Attributes
of_j2602 text = record (tells text) { protocol = Some (codes "J2602_1_1.0") }

pub status-byte : lints (record whole { attributes = of_j2602 (codes "lkey") ∷ [] }) [] [] ≡ []
status-byte = refl

pub bit-of-j2602 : lints (record whole { attributes = of_j2602 (codes "fault") ∷ [] }) [] [] ≡ []
bit-of-j2602 = refl

pub half-a-status-byte : lints (record whole { signals = (record level { subscribers = name (codes "lsm") 6 40 ∷ [] }) ∷ signal 7 (codes "lkey") 4 0 (codes "lsm") ∷ fault ∷ []; attributes = of_j2602 (codes "lkey") ∷ [] }) [] [] ≡ finding_at BadResponseError 26 40 ∷ []
half-a-status-byte = refl

-- where the responder doesn't subscribe the commander's signal
pub bad-configurable : lints (record whole { signals = (record level { subscribers = name (codes "rsm") 6 40 ∷ [] }) ∷ lkey ∷ fault ∷ [] }) [] (listed (codes "Light")) ≡ finding_at BadConfigurable 27 5 ∷ []
bad-configurable = refl

-- a member beside its event-triggered or its sporadic frame
pub event-member-beside : lints (record whole { tables = main_table (entry 32 (codes "Spor") 10000 ∷ entry 33 (codes "Keys") 10000 ∷ entry 34 (codes "LeftKey") 10000 ∷ entry 35 (codes "Error") 10000 ∷ []) ∷ resolve ∷ [] }) [] [] ≡ finding_at EventMemberBeside 34 1 ∷ []
event-member-beside = refl

pub sporadic-member-beside : lints (record whole { tables = main_table (entry 32 (codes "Spor") 10000 ∷ entry 33 (codes "Keys") 10000 ∷ entry 34 (codes "Light") 10000 ∷ entry 35 (codes "Error") 10000 ∷ []) ∷ resolve ∷ [] }) [] [] ≡ finding_at SporadicMemberBeside 34 1 ∷ []
sporadic-member-beside = refl

-- a table that resolves collisions without the member, and one with a diagnostic frame
pub unresolved-member : lints (record whole { tables = main_table (entry 32 (codes "Spor") 10000 ∷ entry 33 (codes "Keys") 10000 ∷ []) ∷ (record resolve { entries = entry 42 (codes "Error") 10000 ∷ [] }) ∷ [] }) [] [] ≡ finding_at UnresolvedMember 21 30 ∷ []
unresolved-member = refl

pub resolving-entry : lints (record whole { tables = main_table (entry 32 (codes "Spor") 10000 ∷ entry 33 (codes "Keys") 10000 ∷ entry 35 (codes "Error") 10000 ∷ []) ∷ (record resolve { entries = entry 42 (codes "LeftKey") 10000 ∷ entry 43 (codes "SlaveResp") 10000 ∷ [] }) ∷ [] }) [] [] ≡ finding_at ResolvingEntry 43 1 ∷ []
resolving-entry = refl
