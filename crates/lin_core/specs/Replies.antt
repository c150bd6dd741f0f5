-- Promises rest on this: what each step is answered.
use Rattle.std.specs.Prelude.{ℕ, suc, ◌-◌, ◌==◌, nat_le, nat_lt, Bool, true, false, ◌&&◌, ◌||◌, not}
use Rattle.std.specs.Prelude.{if◌then◌else◌, List, [], ◌∷◌, ◌++◌, map, find, flat_map, zip, length}
use Rattle.std.specs.Prelude.{drop, Option, is_some, is_none, option_map, filter}
use Rattle.std.specs.List.{list_any}
use Rattle.std.specs.Option.{option_map_or}
use Rattle.lin_frame.specs.Words.{numbers}
use Rattle.lin_frame.specs.Frame.{is_answer}
use Rattle.lin_frame.specs.Bits.{fits_place}
use Rattle.lin_transport.specs.Transport.{functional}
use Rattle.lin_parts.specs.Cluster.{nodes, nad, line_of, signal_of}
use Rattle.lin_parts.specs.Rules.{place_at}
use Rattle.lin_core.specs.History.{Slot as OpenSlot, open_slot, asleep, is_host_closed, seen_of}
use Rattle.lin_core.specs.History.{is_in, is_sleep_slot, has_decided, LogEntry, Step, Parts}
use Rattle.lin_core.specs.Links.{Link, Sending, Fate, accepted_from, host_of, same_link, waiting}
use Rattle.lin_core.specs.Links.{is_begun, sendings, fate_of, waits, reading}
use Rattle.lin_core.specs.Links.Fate.{Waiting, Sent as IsSent, Lost as IsLost}
use Rattle.lin_core.specs.Slots.{next_due, header, due_nodes, is_service, put_by, model_of}
use Rattle.lin_core.specs.declared.port.PortId.{PortId}
use Rattle.lin_core.specs.declared.port.PortId.TheVariants.{Bus, Host, Node}
use Rattle.lin_core.specs.declared.link.Direction.{Direction}
use Rattle.lin_core.specs.declared.link.Direction.TheVariants.{Down, Up}
use Rattle.lin_core.specs.declared.step.Step.TheVariants.{Send, Write, Open, Answer, Leave, Hurt}
use Rattle.lin_core.specs.declared.step.Step.TheVariants.{Finish, Timeout, Switch, AskSleep, Wake}
use Rattle.lin_core.specs.declared.step.Step.TheVariants.{Close}
use Rattle.lin_core.specs.declared.event.Event.{Event}
use Rattle.lin_core.specs.declared.event.Event.TheVariants.{Accepted, Slot, Service, Due, Put, Seen}
use Rattle.lin_core.specs.declared.event.Event.TheVariants.{Message}
use Rattle.lin_core.specs.declared.event.Event.TheVariants.{Sent, Lost, Asleep as SleepEvent}
use Rattle.lin_core.specs.declared.reply.Refusal.{Refusal}
use Rattle.lin_core.specs.declared.reply.Refusal.TheVariants.{NoSuchNode, NoSuchSignal, NoSuchTable}
use Rattle.lin_core.specs.declared.reply.Refusal.TheVariants.{NotPublisher, BadValue, NoAddress}
use Rattle.lin_core.specs.declared.reply.Refusal.TheVariants.{BadLength, Closed, QueueFull, Asleep}
use Rattle.lin_core.specs.declared.reply.Refusal.TheVariants.{Awake, SlotOpen, NoSlot, NotYours}
use Rattle.lin_core.specs.declared.reply.Refusal.TheVariants.{Decided, NothingOnWire, PassesCheck}
use Rattle.lin_core.specs.declared.reply.Refusal.TheVariants.{NoTransfer}
use Rattle.lin_core.specs.declared.reply.Reply.{Reply}
use Rattle.lin_core.specs.declared.reply.Reply.TheVariants.{Done, Refused}

-- which port may give which step
abbrev pub may : PortId → Step → Bool
may Bus step = true
may (Host n) (Send from to message) = from == n
may (Host n) (Write by signal value) = by == n
may (Host n) (Close host) = host == n
may (Host n) step = false
may (Node n) (Answer node) = node == n
may (Node n) (Leave node) = node == n
may (Node n) step = false

-- whether a responder has an address
abbrev pub has_responder_address : Parts → Bool
has_responder_address c = list_any (λ n. is_some (nad c n)) (numbers (nodes c))

-- exactly one of sender and receiver is host 0, and the other one has an address; or host 0 sends to
-- all responders, and one of them has an address
abbrev pub has_route : Parts → ℕ → ℕ → Bool
has_route c from to =
    if to == functional then from == 0 && has_responder_address c
    else (from == 0 && not (to == 0) && is_some (nad c to))
    || (to == 0 && not (from == 0) && is_some (nad c from))

-- the most bytes of a message to a receiver: to all responders those of a single frame
abbrev pub most_message_bytes : ℕ → ℕ
most_message_bytes to = if to == functional then 6 else 4095

abbrev pub is_open : List LogEntry → Bool
is_open past = is_some (open_slot past)

-- whether the open slot is so, where one is open
abbrev pub in_slot : List LogEntry → (OpenSlot → Bool) → Bool
in_slot past test = option_map_or test (open_slot past) false

abbrev pub link_at : ℕ → Direction → Link
link_at n d = record { node = n; dir = d }

-- whether bytes pass the check of an answer in a slot: its length, and its checksum in the model of
-- the slot's entry over the slot's header
abbrev pub passes_in : Parts → OpenSlot → List ℕ → List ℕ → Bool
passes_in c s answer bytes =
    option_map_or
    (λ h. is_answer (model_of c (line_of c s.table s.entry).entry h) h (length answer - 1) bytes)
    s.header false

-- the message that is begun on a link; one to all is never begun
abbrev pub begun_on : Parts → List LogEntry → ℕ → Direction → Option Sending
begun_on c past n d =
    find (λ s. same_link s.message.link (link_at n d) && is_begun c s)
    (sendings c past (host_of (link_at n d)))

-- of an answer, and of a response left out, which this port may give or not
abbrev pub response_refusals : Parts → List LogEntry → Bool → ℕ → List (Refusal × Bool)
response_refusals c past allowed node =
    (NoSuchNode, nat_le (nodes c) node)
    ∷ (NoSlot, not (is_open past))
    ∷ (NotYours, not allowed || not (in_slot past (λ s. is_in s.due node)))
    ∷ (Decided, in_slot past (λ s. has_decided s node))
    ∷ []

-- the conditions under which a step is refused, in the order of their numbers
abbrev pub refusals : Parts → ℕ → List LogEntry → PortId → Step → List (Refusal × Bool)
refusals c capacity past port (Send from to message) =
    (NoSuchNode, nat_le (nodes c) from || (nat_le (nodes c) to && not (to == functional)))
    ∷ (NoAddress, not (has_route c from to))
    ∷ (BadLength, length message == 0 || nat_lt (most_message_bytes to) (length message))
    ∷ (Closed, is_host_closed past from)
    ∷ (QueueFull, nat_le capacity (length (waiting c past from)))
    ∷ (NotYours, not (may port (Send from to message)))
    ∷ []
refusals c capacity past port (Write by signal value) =
    (NoSuchNode, nat_le (nodes c) by)
    ∷ (NoSuchSignal, nat_le (length c.signals) signal)
    ∷ (NotPublisher, not (by == (signal_of c signal).publisher))
    ∷ (BadValue, not (fits_place (place_at 0 (signal_of c signal)) value))
    ∷ (NotYours, not (may port (Write by signal value)))
    ∷ []
refusals c capacity past port Open =
    (Asleep, asleep past) ∷ (SlotOpen, is_open past) ∷ (NotYours, not (may port Open)) ∷ []
refusals c capacity past port (Answer node) = response_refusals c past (may port (Answer node)) node
refusals c capacity past port (Leave node) = response_refusals c past (may port (Leave node)) node
refusals c capacity past port (Hurt bytes) =
    (NoSlot, not (is_open past))
    ∷ (NotYours, not (may port (Hurt bytes)))
    ∷ (Decided, in_slot past (λ s. s.hurt))
    ∷ (NothingOnWire, not (in_slot past (λ s. length s.puts == 1)))
    ∷ (
      PassesCheck,
      in_slot past (λ s. list_any (λ (p : ℕ × List ℕ). passes_in c s p.1 bytes) s.puts),
    )
    ∷ []
refusals c capacity past port Finish =
    (NoSlot, not (is_open past)) ∷ (NotYours, not (may port Finish)) ∷ []
refusals c capacity past port (Timeout node dir) =
    (NoSuchNode, nat_le (nodes c) node)
    ∷ (SlotOpen, is_open past)
    ∷ (NotYours, not (may port (Timeout node dir)))
    ∷ (NoTransfer, is_none (begun_on c past node dir))
    ∷ []
refusals c capacity past port (Switch table) =
    (NoSuchTable, nat_le (length c.tables) table) ∷ (SlotOpen, is_open past)
    ∷ (NotYours, not (may port (Switch table))) ∷ []
refusals c capacity past port AskSleep =
    (Asleep, asleep past) ∷ (NotYours, not (may port AskSleep)) ∷ []
refusals c capacity past port Wake =
    (Awake, not (asleep past)) ∷ (NotYours, not (may port Wake)) ∷ []
refusals c capacity past port (Close host) =
    (NoSuchNode, nat_le (nodes c) host) ∷ (Closed, is_host_closed past host)
    ∷ (NotYours, not (may port (Close host))) ∷ []

-- the first of them that holds
abbrev pub refusal : Parts → ℕ → List LogEntry → PortId → Step → Option Refusal
refusal c capacity past port step =
    option_map
    (λ (r : Refusal × Bool). r.0)
    (find (λ (r : Refusal × Bool). r.1) (refusals c capacity past port step))

-- the event of an open of a slot for a service
abbrev pub service_events : Bool → List Event
service_events served = if served then Service ∷ [] else []

-- the events of an open: its slot, whether it is for a service, and who is due in it
abbrev pub opening_events : Parts → ℕ → List LogEntry → List Event
opening_events c opening past =
    let at : ℕ × ℕ = next_due c opening past
    in let entry = (line_of c at.0 at.1).entry
    in Slot at.0 at.1 (header c past entry)
    ∷ (service_events (is_service c past entry) ++ map Due (due_nodes c past entry))

abbrev pub put_event : Parts → List LogEntry → ℕ → OpenSlot → List Event
put_event c past n s =
    option_map_or (λ h. Put n (put_by c past s h n) ∷ []) s.header []

-- the links: each responder that has an address, down and up
abbrev pub all_links : Parts → List Link
all_links c =
    filter (λ l. is_some (nad c l.node))
    (map (λ n. link_at n Down) (numbers (nodes c)) ++ map (λ n. link_at n Up) (numbers (nodes c)))

abbrev pub receiver_of : Direction → ℕ → ℕ
receiver_of Down n = n
receiver_of Up n = 0

-- the messages by which the readings grew
abbrev pub new_messages : Parts → LogEntry → List LogEntry → Link → List Event
new_messages c e past l =
    map (λ m. Message (host_of l) (receiver_of l.dir l.node) m)
    (drop (length (reading c past l)) (reading c (e ∷ past) l))

-- what a fate that is no longer Waiting reports
abbrev pub report : ℕ → ℕ → Fate → List Event
report h number Waiting = []
report h number IsSent = Sent h number ∷ []
report h number (IsLost cause) = Lost h number cause ∷ []

-- the reports of a host's messages that waited and do so no longer
abbrev pub reports : Parts → LogEntry → List LogEntry → ℕ → List Event
reports c e past h =
    flat_map (λ (s : Sending × Sending). if waits c s.0 then report h s.1.number (fate_of c s.1)
    else [])
    (zip (sendings c past h) (sendings c (e ∷ past) h))

abbrev pub all_reports : Parts → LogEntry → List LogEntry → List Event
all_reports c e past = flat_map (reports c e past) (numbers (nodes c))

-- an entry by which a step is done with no event
abbrev pub quiet_entry : PortId → Step → LogEntry
quiet_entry port step = record { port = port; step = step; reply = Done [] }

-- whether the finish of the open slot is a sleep mark
abbrev pub sleeps : List LogEntry → Bool
sleeps past = option_map_or is_sleep_slot (open_slot past) false

abbrev pub finish_events : Parts → PortId → List LogEntry → List Event
finish_events c port past =
    let e : LogEntry = quiet_entry port Finish
    in option_map_or (λ s. Seen (seen_of s) ∷ []) (open_slot past) []
    ++ flat_map (new_messages c e past) (all_links c)
    ++ (if sleeps past then SleepEvent ∷ [] else [])
    ++ all_reports c e past

abbrev pub done_events : Parts → ℕ → List LogEntry → PortId → Step → List Event
done_events c opening past port (Send from to message) =
    Accepted from (suc (length (accepted_from past from))) ∷ []
done_events c opening past port Open = opening_events c opening past
done_events c opening past port (Answer node) =
    option_map_or (put_event c past node) (open_slot past) []
done_events c opening past port Finish = finish_events c port past
done_events c opening past port (Timeout node dir) =
    all_reports c (quiet_entry port (Timeout node dir)) past
done_events c opening past port step = []

unfoldable pub reply : Parts → ℕ → ℕ → List LogEntry → PortId → Step → Reply
reply c opening capacity past port step =
    option_map_or Refused (refusal c capacity past port step)
    (Done (done_events c opening past port step))
