-- What the pump keeps for each port.
use Rattle.std.specs.Prelude.{◌≡◌, ℕ, ◌≤◌, ◌<◌, ◌+◌, ◌-◌, ◌^◌, ◌⊎◌, ⊤, List, ◌++◌, ◌∷◌, [], map}
use Rattle.std.specs.Prelude.{length, drop, Bool, true, false, if◌then◌else◌, Some, MatchBool}
use Rattle.std.specs.Prelude.{Result, Ok, Err}
use Rattle.std.specs.List.{slice_get}
use Rattle.rtrb.specs.Ring.{sent, received, known_free}
use Rattle.lin_core.specs.Core.{CoreData, entry_with_reply}
use Rattle.lin_core.specs.Replies.{may}
use Rattle.lin_core.specs.declared.log.LogEntry.{LogEntry}
use Rattle.lin_core.specs.declared.port.PortId.{PortId}
use Rattle.lin_core.specs.declared.port.PortId.TheVariants.{Host, Node}
use Rattle.lin_core.specs.declared.step.Step.{Step}
use Rattle.lin_threads.specs.Steps.{host_step, node_step, logged, notes, notes_told, port_at}
use Rattle.lin_threads.specs.Steps.{same_port}
use Rattle.lin_threads.specs.Ports.{RingId, Wiring, ring_into, ring_from, ring_size}
use Rattle.lin_threads.specs.declared.ports.incoming.Incoming.{Incoming}
use Rattle.lin_threads.specs.declared.ports.incoming.Incoming.TheVariants as into
use Rattle.lin_threads.specs.declared.ports.lane.Lane.{Lane}
use Rattle.lin_threads.specs.declared.ports.steps.Note.{Note}
use Rattle.lin_threads.specs.declared.ports.pump.RoundFault.{RoundFault}
use Rattle.lin_threads.specs.declared.ports.pump.RoundFault.TheVariants.{LogFull, OutOfMemory}

-- of the pump's end of a ring of steps: the port with this number, its ring, and the steps that
-- came out
abbrev pub port_in : ℕ → Incoming → PortId
port_in n (into.Host ring) = Host n
port_in n (into.Node ring) = Node n

abbrev pub ring_in : Incoming → RingId
ring_in (into.Host ring) = ring_from ring
ring_in (into.Node ring) = ring_from ring

abbrev pub steps_from_ring : ℕ → Incoming → List Step
steps_from_ring n (into.Host ring) = map (host_step n) (received ring)
steps_from_ring n (into.Node ring) = map (node_step n) (received ring)

-- the same end of the same ring
abbrev pub SameIncoming : Incoming → Incoming → Type 0
SameIncoming a b = ((n : ℕ) → port_in n b ≡ port_in n a) × (ring_in b ≡ ring_in a)

abbrev pub lane_wiring : Lane → Wiring
lane_wiring lane = record {
  port = port_in lane.number lane.steps;
  steps = ring_in lane.steps;
  notes = ring_into lane.notes;
}

abbrev pub port_of : Lane → PortId
port_of lane = (lane_wiring lane).port

-- the same port; once settled, always settled
pub record SameLane (a b : Lane) : Type 0 where
  pub wiring : lane_wiring b ≡ lane_wiring a
  pub settled : a.settled ≡ true → b.settled ≡ true

-- what came out of the ring of steps is what was logged, and what went into the ring of notes is
-- the notes of what the lane has seen
pub record Serves (base : ℕ) (log : List LogEntry) (lane : Lane) : Type 0 where
  pub steps : logged (drop base log) (port_of lane) ≡ steps_from_ring lane.number lane.steps
  pub after : base ≤ lane.seen
  pub within : lane.seen ≤ length log
  pub whole : lane.seen ≡ length log → lane.part ≡ 0
  pub notes : sent lane.notes ≡ notes_told (port_of lane) base lane.seen lane.part log
  pub given : lane.given ≡ length (sent lane.notes)

-- and with the next entry of the log, where it is this one
abbrev pub ServesNext : Lane → LogEntry → Lane → Type 0
ServesNext old e new =
    (base : ℕ) (log : List LogEntry) → Serves base log old → slice_get log old.seen ≡ Some e
    → Serves base log new

-- one more entry: the core's answer to a step of the port, one that it may give
pub record AddsEntry (port : PortId) (old new : CoreData) : Type 0 where
  pub step : Step
  pub own : may port step ≡ true
  pub log : new.log ≡ old.log ++ entry_with_reply old port step ∷ []

-- one more entry where there was a step, and none otherwise
abbrev pub Served : {E : Type 0} → PortId → CoreData → CoreData → Result Bool E → Type 0
Served port old new (Ok b) = MatchBool b (AddsEntry port old new) (new.log ≡ old.log)
Served port old new (Err e) = new.log ≡ old.log

abbrev pub IsFullLog : RoundFault → Type 0
IsFullLog LogFull = ⊤
IsFullLog OutOfMemory = ⊥

abbrev pub AllServe : ℕ → List LogEntry → List Lane → Type 0
AllServe base log lanes =
    (i : ℕ) (lane : Lane) → slice_get lanes i ≡ Some lane → Serves base log lane

-- the lanes stand in the order of their ports
abbrev pub AreInPortOrder : ℕ → List Lane → Type 0
AreInPortOrder nodes lanes =
    (i : ℕ) (lane : Lane) → slice_get lanes i ≡ Some lane → port_of lane ≡ port_at nodes i

-- each of these entries is a step that its port may give: a host's own Sends, Writes and Closes,
-- and a node's own Answers and Leaves
abbrev pub OnlyOwn : List LogEntry → Type 0
OnlyOwn es = (i : ℕ) (e : LogEntry) → slice_get es i ≡ Some e → may e.port e.step ≡ true

-- the notes that were pushed to a port
abbrev pub given_in : PortId → List Lane → List Note
given_in port [] = []
given_in port (lane ∷ lanes) =
    if same_port (port_of lane) port then sent lane.notes else given_in port lanes

-- the ring of notes has no room that the pump knows of, or the notes can't be counted any more
abbrev pub HasNoRoom : Lane → Type 0
HasNoRoom lane = (known_free lane.notes ≡ 0) ⊎ (lane.given ≡ 2 ^ 64 - 1)

-- the port is settled; or all notes that these entries have for it were pushed; or its ring has no
-- room, and at least as many notes were pushed as it takes
abbrev pub IsTold : List LogEntry → Lane → Type 0
IsTold es lane =
    (lane.settled ≡ true)
    ⊎ ((sent lane.notes ≡ notes es (port_of lane))
    ⊎ (HasNoRoom lane × (ring_size (ring_into lane.notes) ≤ length (sent lane.notes))))

-- the same of each of the first lanes
abbrev pub FirstTold : ℕ → List LogEntry → List Lane → Type 0
FirstTold count es lanes =
    (i : ℕ) (lane : Lane) → i < count → slice_get lanes i ≡ Some lane → IsTold es lane

-- what it does to a lane to push these notes
pub record PushesNotes (a b : Lane) (xs : List Note) : Type 0 where
  pub number : b.number ≡ a.number
  pub steps : b.steps ≡ a.steps
  pub ring : ring_into b.notes ≡ ring_into a.notes
  pub notes : sent b.notes ≡ sent a.notes ++ xs
  pub given : a.given ≡ length (sent a.notes) → b.given ≡ length (sent b.notes)
  pub settled : b.settled ≡ a.settled

-- whether an event was looked at, and its notes pushed
abbrev pub TellsEvent : {E : Type 0} → Lane → Lane → List Note → Result Bool E → Type 0
TellsEvent a b xs (Ok true) = PushesNotes a b xs × (b.part ≡ a.part + 1)
TellsEvent a b xs (Ok false) = PushesNotes a b [] × (b.part ≡ a.part)
TellsEvent a b xs (Err e) = PushesNotes a b [] × (b.part ≡ a.part)

-- whether the next entry comes
abbrev pub GoesOn : {E : Type 0} → Lane → Lane → Result Bool E → Type 0
GoesOn a b (Ok true) = b.seen ≡ a.seen + 1
GoesOn a b (Ok false) = b.seen ≡ a.seen
GoesOn a b (Err e) = b.seen ≡ a.seen
