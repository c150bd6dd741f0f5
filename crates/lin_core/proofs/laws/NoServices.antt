-- Without requests of configuration entries nothing is for a service.
use Rattle.std.proofs.Common.{◌≡◌, ℕ, Bool, false, List, [], ◌∷◌, ◌++◌, map, refl}
use Rattle.std.specs.Prelude.{Option, Some, None, ◌==◌, if◌then◌else◌, filter, not, slice_index}
use Rattle.std.specs.List.{list_any}
use Rattle.std.specs.Option.{option_map_or}
use Rattle.lin_transport.specs.Transport.{functional}
use Rattle.lin_parts.specs.Cluster.{line_of}
use Rattle.lin_parts.specs.declared.parts.Entry.{Entry}
use Rattle.lin_parts.specs.declared.parts.Entry.TheVariants.{Frame, Sporadic, Event as EventEntry, MasterReq, SlaveResp, Fixed, Quiet}
use Rattle.lin_parts.specs.declared.parts.Parts.{Parts}
use Rattle.lin_core.specs.Defined.{AreDefined, TellsDue}
use Rattle.lin_core.specs.History.{Slot, done, events, finished_slot, good_under, header_is}
use Rattle.lin_core.specs.Promises.{CarriesFrames, HasNoRequest, NoServices, is_request, is_service_event}
use Rattle.lin_core.specs.Replies.{service_events}
use Rattle.lin_core.specs.Runs.{history}
use Rattle.lin_core.specs.Slots.{due_nodes, has_put, is_service, plain_nodes, ready_responses, responses_after, responses_to}
use Rattle.lin_core.specs.declared.event.Event.{Event}
use Rattle.lin_core.specs.declared.event.Event.TheVariants.{Accepted, Slot as SlotEvent, Service, Due, Put, Seen, Message, Sent, Lost, Asleep}
use Rattle.lin_core.specs.declared.log.LogEntry.{LogEntry}
use Rattle.lin_core.specs.declared.port.PortId.{PortId}
use Rattle.lin_core.specs.declared.step.Step.{Step}
use Rattle.lin_core.specs.declared.step.Step.TheVariants.{Send, Write, Open, Answer, Leave, Hurt, Finish, Timeout, Switch, AskSleep, Wake, Close}
use Rattle.lin_core.proofs.laws.Laws.{history-carries}
use Rattle.lin_core.proofs.links.Finishes.{same-cond}

-- no response is ready
responses-none : (c : Parts) (e : Entry) → is_request e ≡ false → responses_to c e ≡ []
responses-none c (Frame f) h = refl
responses-none c (Sporadic k) h = refl
responses-none c (EventEntry e) h = refl
responses-none c MasterReq h = refl
responses-none c SlaveResp h = refl
responses-none c (Fixed request) h = absurd (cc)
responses-none c Quiet h = refl

after-by : (c : Parts) (s : Slot) (o : Option (List ℕ)) → is_request (line_of c s.table s.entry).entry ≡ false
    → option_map_or (λ bytes. if slice_index bytes 0 == 0 then [] else if slice_index bytes 0 == functional then [] else responses_to c (line_of c s.table s.entry).entry) o
    (if header_is 0x7D s.header then filter (λ (r : ℕ × List ℕ). not (has_put s r.0)) [] else []) ≡ []
after-by c s None h = same-cond (header_is 0x7D s.header) []
after-by c s (Some bytes) h = rw (responses-none c (line_of c s.table s.entry).entry h, same-cond (slice_index bytes 0 == functional), same-cond (slice_index bytes 0 == 0))

after-none : (c : Parts) (s : Slot) (ready : List (ℕ × List ℕ)) → ready ≡ [] → is_request (line_of c s.table s.entry).entry ≡ false → responses_after c s ready ≡ []
after-none c s ready e h = rw e (after-by c s (good_under 0x3C s) h)

ready-by : (c : Parts) (o : Option Slot) (ready : List (ℕ × List ℕ)) → HasNoRequest c → ready ≡ [] → option_map_or (λ s. responses_after c s ready) o ready ≡ []
ready-by c None ready none e = e
ready-by c (Some s) ready none e = after-none c s ready e (none s.table s.entry)

ready-none : (c : Parts) (past : List LogEntry) → HasNoRequest c → ready_responses c past ≡ []
ready-none c [] none = refl
ready-none c (e ∷ past) none = ready-by c (finished_slot e past) (ready_responses c past) none (ready-none c past none)

-- no slot is for a service
service-none : (c : Parts) (past : List LogEntry) (kind : Entry) → is_request kind ≡ false → ready_responses c past ≡ [] → is_service c past kind ≡ false
service-none c past (Frame f) h e = refl
service-none c past (Sporadic k) h e = refl
service-none c past (EventEntry v) h e = refl
service-none c past MasterReq h e = refl
service-none c past SlaveResp h e = rw e refl
service-none c past (Fixed request) h e = absurd (cc)
service-none c past Quiet h e = refl

due-plain : (c : Parts) (past : List LogEntry) (kind : Entry) → is_service c past kind ≡ false → due_nodes c past kind ≡ plain_nodes c past kind
due-plain c past kind e = rw e refl

-- no event tells of one
none-due : (ns : List ℕ) → list_any is_service_event (map Due ns) ≡ false
none-due [] = refl
none-due (n ∷ ns) = none-due ns

open-none : (b : Bool) (ns : List ℕ) → b ≡ false → list_any is_service_event (service_events b ++ map Due ns) ≡ false
open-none b ns e = rw e (none-due ns)

other-none : (c : Parts) (o : ℕ) (d : Option Step) (past : List LogEntry) (es : List Event) → (d ≡ Some Open → ⊥) → AreDefined c o d past es → list_any is_service_event es ≡ false
other-none c o d past [] not_open a = refl
other-none c o d past (Accepted host number ∷ es) not_open a = other-none c o d past es not_open a.1
other-none c o d past (SlotEvent table entry header ∷ es) not_open a = other-none c o d past es not_open a.1
other-none c o d past (Service ∷ es) not_open a = absurd (not_open a.0)
other-none c o d past (Due node ∷ es) not_open a = other-none c o d past es not_open a.1
other-none c o d past (Put node bytes ∷ es) not_open a = other-none c o d past es not_open a.1
other-none c o d past (Seen how ∷ es) not_open a = other-none c o d past es not_open a.1
other-none c o d past (Message from to bytes ∷ es) not_open a = other-none c o d past es not_open a.1
other-none c o d past (Sent host number ∷ es) not_open a = other-none c o d past es not_open a.1
other-none c o d past (Lost host number why ∷ es) not_open a = other-none c o d past es not_open a.1
other-none c o d past (Asleep ∷ es) not_open a = other-none c o d past es not_open a.1

told-none : (c : Parts) (past : List LogEntry) (es : List Event) (table entry : ℕ) (header : Option ℕ) (ns : List ℕ) (b : Bool) → b ≡ false → es ≡ SlotEvent table entry header ∷ (service_events b ++ map Due ns) → list_any is_service_event es ≡ false
told-none c past es table entry header ns b e is = rw is (open-none b ns e)

events-by : (c : Parts) (opening : ℕ) (past : List LogEntry) (e : LogEntry) (d : Option Step) → done e ≡ d → HasNoRequest c → AreDefined c opening d past (events e) → TellsDue c e past → list_any is_service_event (events e) ≡ false
events-by c opening past e None is none a t = other-none c opening None past (events e) (λ z. cc) a
events-by c opening past e (Some Open) is none a t =
    let told = t is
    in told-none c past (events e) told.0 told.1 told.2 (due_nodes c past (line_of c told.0 told.1).entry) (is_service c past (line_of c told.0 told.1).entry)
    (service-none c past (line_of c told.0 told.1).entry (none told.0 told.1) (ready-none c past none)) told.3
events-by c opening past e (Some (Send from to message)) is none a t = other-none c opening (Some (Send from to message)) past (events e) (λ z. cc) a
events-by c opening past e (Some (Write by signal value)) is none a t = other-none c opening (Some (Write by signal value)) past (events e) (λ z. cc) a
events-by c opening past e (Some (Answer node)) is none a t = other-none c opening (Some (Answer node)) past (events e) (λ z. cc) a
events-by c opening past e (Some (Leave node)) is none a t = other-none c opening (Some (Leave node)) past (events e) (λ z. cc) a
events-by c opening past e (Some (Hurt bytes)) is none a t = other-none c opening (Some (Hurt bytes)) past (events e) (λ z. cc) a
events-by c opening past e (Some Finish) is none a t = other-none c opening (Some Finish) past (events e) (λ z. cc) a
events-by c opening past e (Some (Timeout node dir)) is none a t = other-none c opening (Some (Timeout node dir)) past (events e) (λ z. cc) a
events-by c opening past e (Some (Switch table)) is none a t = other-none c opening (Some (Switch table)) past (events e) (λ z. cc) a
events-by c opening past e (Some AskSleep) is none a t = other-none c opening (Some AskSleep) past (events e) (λ z. cc) a
events-by c opening past e (Some Wake) is none a t = other-none c opening (Some Wake) past (events e) (λ z. cc) a
events-by c opening past e (Some (Close host)) is none a t = other-none c opening (Some (Close host)) past (events e) (λ z. cc) a

carried-none : (c : Parts) (opening : ℕ) (past : List LogEntry) → HasNoRequest c → CarriesFrames c opening past → NoServices c past
carried-none c opening [] none carries = tt
carried-none c opening (e ∷ past) none carries = (
  events-by c opening past e (done e) refl none carries.0 carries.1,
  ready-none c (e ∷ past) none,
  (λ table entry. due-plain c past (line_of c table entry).entry (service-none c past (line_of c table entry).entry (none table entry) (ready-none c past none))),
  carried-none c opening past none carries.2,
)

pub history-none : (c : Parts) (opening capacity : ℕ) (steps : List (PortId × Step)) → HasNoRequest c → NoServices c (history c opening capacity steps)
history-none c opening capacity steps none = carried-none c opening (history c opening capacity steps) none (history-carries c opening capacity steps)
