-- Promises rest on this: the laws, each as one statement over the history of a log.
use Rattle.std.specs.Prelude.{◌≡◌, ℕ, ⊤, Bool, true, false, List, [], ◌∷◌, is_some, map}
use Rattle.std.specs.List.{list_any}
use Rattle.lin_parts.specs.Cluster.{line_of, nad}
use Rattle.lin_parts.specs.declared.parts.Entry.{Entry}
use Rattle.lin_parts.specs.declared.parts.Entry.TheVariants.{Fixed}
use Rattle.lin_core.specs.Defined.{AreDefined, TellsDue}
use Rattle.lin_core.specs.History.{done, events, LogEntry, Parts}
use Rattle.lin_core.specs.Law.{InOrder, NoneLost, NoSendAfterClose, ReadsAll, ReadsSent, Stays}
use Rattle.lin_core.specs.Law.{is_calm, outcomes_of, AgreesOn}
use Rattle.lin_core.specs.Links.{Link, blocks, frames_to, messages_on}
use Rattle.lin_core.specs.Reports.{ReportsFates, TellsReading}
use Rattle.lin_core.specs.Slots.{due_nodes, plain_nodes, ready_responses}
use Rattle.lin_core.specs.declared.event.Event.{Event}
use Rattle.lin_core.specs.declared.event.Event.TheVariants.{Service}

-- exact delivery: the receiver of each link reads the messages that were accepted for it and sent,
-- in order and each once, and the message events of the link are these
abbrev pub DeliversExactly : Parts → List LogEntry → Type 0
DeliversExactly c past =
    (l : Link) → is_some (nad c l.node) ≡ true → ReadsSent c past l × TellsReading c past l

-- blocks are prefixes: no link has more blocks than messages; each block is a beginning of its
-- message's frames; where another one follows, its message waits no longer
abbrev pub PutsInOrder : Parts → List LogEntry → Type 0
PutsInOrder c past =
    (l : Link) → is_some (nad c l.node) ≡ true
    → InOrder (map (frames_to c) (messages_on past l)) (blocks c past l)

-- a host's fates stay as they are, from each entry to the next
abbrev pub AllStay : Parts → List LogEntry → ℕ → Type 0
AllStay c [] h = ⊤
AllStay c (e ∷ past) h =
    Stays (outcomes_of c past h) (outcomes_of c (e ∷ past) h) × AllStay c past h

-- one final fate per message: a fate that isn't Waiting never changes, each host is told once of
-- each of its messages that waits no longer, and a message has the same fate on each link that it
-- goes over
abbrev pub FatesAreFinal : Parts → List LogEntry → Type 0
FatesAreFinal c past =
    ((h : ℕ) → AllStay c past h × ReportsFates c past h)
    × ((l : Link) → is_some (nad c l.node) ≡ true → AgreesOn c past l)

-- every slot carries its frame: each slot event has the due entry and its header, and after it
-- stands a due event for each node that is due, in order; each put has the bytes of the slot's
-- entry
abbrev pub CarriesFrames : Parts → ℕ → List LogEntry → Type 0
CarriesFrames c opening [] = ⊤
CarriesFrames c opening (e ∷ past) =
    AreDefined c opening (done e) past (events e) × TellsDue c e past × CarriesFrames c opening past

-- nothing accepted after close: where a send of a host is done, no close of it was done before
abbrev pub StaysClosed : List LogEntry → Type 0
StaysClosed [] = ⊤
StaysClosed (e ∷ past) = ((h : ℕ) → NoSendAfterClose e past h) × StaysClosed past

-- lossless runs deliver everything: where no hurt and no timeout was done and there is no sleep
-- mark, no message is lost, and where nothing of a host waits, all that was accepted from it was
-- read
abbrev pub LosesNothing : Parts → List LogEntry → Type 0
LosesNothing c past =
    is_calm past ≡ true
    → ((h : ℕ) → NoneLost (outcomes_of c past h))
    × ((l : Link) → is_some (nad c l.node) ≡ true → ReadsAll c past l)

-- no services: where no entry carries a request of node configuration, no response is ever ready, no
-- open tells of a service, and the nodes that are due are those of slots of messages and signals
abbrev pub is_request : Entry → Bool
is_request (Fixed request) = true
is_request entry = false

abbrev pub HasNoRequest : Parts → Type 0
HasNoRequest c = (table entry : ℕ) → is_request (line_of c table entry).entry ≡ false

abbrev pub is_service_event : Event → Bool
is_service_event Service = true
is_service_event event = false

abbrev pub NoServices : Parts → List LogEntry → Type 0
NoServices c [] = ⊤
NoServices c (e ∷ past) =
    (list_any is_service_event (events e) ≡ false)
    × (ready_responses c (e ∷ past) ≡ [])
    × ((table entry : ℕ)
    → due_nodes c past (line_of c table entry).entry ≡ plain_nodes c past (line_of c table entry).entry)
    × NoServices c past
