-- Promises rest on this: what a slot is for: its header, who is due in it, and what an answer puts
-- (ISO 17987-3, frame transfer; ISO 17987-2, diagnostic schedules).
use Rattle.std.specs.Prelude.{ℕ, ◌==◌, nat_le, nat_lt, Bool, false, ◌&&◌, ◌||◌, not, if◌then◌else◌, List}
use Rattle.std.specs.Prelude.{[], ◌∷◌, ◌++◌, filter, find, length, map, replicate, slice_index, Option}
use Rattle.std.specs.Prelude.{Some, None, is_some, option_map}
use Rattle.std.specs.List.{list_any, cons_option}
use Rattle.std.specs.Option.{option_map_or, unwrap_or}
use Rattle.lin_frame.specs.Words.{numbers}
use Rattle.lin_frame.specs.Frame.{classic, answer_of}
use Rattle.lin_frame.specs.declared.sums.SumKind.{SumKind}
use Rattle.lin_frame.specs.declared.sums.SumKind.TheVariants.{Classic}
use Rattle.lin_transport.specs.Transport.{frame, functional}
use Rattle.lin_parts.specs.Cluster.{nad, nodes, frame_of, sporadic_of, event_of, line_of, responses}
use Rattle.lin_parts.specs.declared.parts.Entry.{Entry}
use Rattle.lin_parts.specs.declared.parts.Entry.TheVariants.{Frame, Sporadic, Event}
use Rattle.lin_parts.specs.declared.parts.Entry.TheVariants.{MasterReq}
use Rattle.lin_parts.specs.declared.parts.Entry.TheVariants.{SlaveResp, Fixed, Quiet}
use Rattle.lin_schedule.specs.Schedule.{Move, standing, due}
use Rattle.lin_schedule.specs.Schedule.Move.{Slot as SlotMove, Switch as SwitchMove, Restart}
use Rattle.lin_core.specs.History.{Slot, is_sleep_asked, done, finished_slot, good_under, is_clash}
use Rattle.lin_core.specs.History.{is_sleep_mark, header_is, LogEntry, Step, Parts}
use Rattle.lin_core.specs.Links.{Sending, waiting, begun_sending, block_frames, link_address}
use Rattle.lin_core.specs.Signals.{is_pending, signal_bytes}
use Rattle.lin_core.specs.declared.step.Step.TheVariants.{Switch, Wake}

-- how a step that isn't of a slot moves the schedule on
abbrev pub move_of : Step → Option Move
move_of (Switch table) = Some (SwitchMove table)
move_of Wake = Some Restart
move_of step = None

-- how an entry moves the schedule on
abbrev pub moves_at : LogEntry → List LogEntry → List Move
moves_at e past =
    cons_option (option_map (λ s. SlotMove (is_clash s)) (finished_slot e past))
    (cons_option (option_map_or move_of (done e) None) [])

abbrev pub moves : List LogEntry → List Move
moves [] = []
moves (e ∷ past) = moves_at e past ++ moves past

-- the due table and entry of the next slot
abbrev pub next_due : Parts → ℕ → List LogEntry → ℕ × ℕ
next_due c opening past = due c (standing c opening (moves past))

abbrev pub node_with : Parts → ℕ → Option ℕ
node_with c k = find (λ n. option_map_or (λ own. own == k) (nad c n) false) (numbers (nodes c))

-- the node that a slot selects, if it is a good master request to an address
abbrev pub addressee : Parts → Slot → Option (Option ℕ)
addressee c s =
    option_map_or
    (λ bytes. if nat_le 1 (slice_index bytes 0) && nat_le (slice_index bytes 0) 125
    then Some (node_with c (slice_index bytes 0)) else None) (good_under 0x3C s) None

-- the selected responder: the one that the last such slot since the last sleep mark addresses
abbrev pub selected_node : Parts → List LogEntry → Option ℕ
selected_node c [] = None
selected_node c (e ∷ past) =
    if is_sleep_mark e past then None
    else unwrap_or (option_map_or (addressee c) (finished_slot e past) None) (selected_node c past)

-- the header of a slot for an entry: of a sporadic frame that of its first pending member, of the
-- master request frame its own where a message waits or sleep is asked
abbrev pub header : Parts → List LogEntry → Entry → Option ℕ
header c past (Frame f) = Some (frame_of c f).pid
header c past (Sporadic k) =
    option_map (λ f. (frame_of c f).pid) (find (is_pending c past) (sporadic_of c k))
header c past (Event e) = Some (event_of c e).pid
header c past MasterReq =
    if nat_lt 0 (length (waiting c past 0)) || is_sleep_asked past then Some 0x3C else None
header c past SlaveResp = Some 0x7D
header c past (Fixed request) = Some 0x3C
header c past Quiet = None

-- whether a node is due in a slot for an entry: under an event-triggered header each publisher
-- whose frame is pending, in a slave response the selected responder where one of its messages
-- waits
abbrev pub is_due : Parts → List LogEntry → Entry → ℕ → Bool
is_due c past (Frame f) n = n == (frame_of c f).publisher
is_due c past (Sporadic k) n = n == 0 && is_some (header c past (Sporadic k))
is_due c past (Event e) n =
    list_any (λ f. n == (frame_of c f).publisher && is_pending c past f) (event_of c e).frames
is_due c past MasterReq n = n == 0 && is_some (header c past MasterReq)
is_due c past SlaveResp n =
    option_map_or (λ k. n == k && nat_lt 0 (length (waiting c past k))) (selected_node c past) false
is_due c past (Fixed request) n = false
is_due c past Quiet n = false

-- == node configuration (LIN 2.2A, section 4.2)
-- the responses of responders to the request of an entry. A frame of a message asks for none
abbrev pub responses_to : Parts → Entry → List (ℕ × List ℕ)
responses_to c (Fixed request) = responses c request
responses_to c entry = []

-- whether a node has put a response in a slot
abbrev pub has_put : Slot → ℕ → Bool
has_put s n = list_any (λ (p : ℕ × List ℕ). p.0 == n) s.puts

-- the responses that are left when these were ready before a slot: after a good master request those
-- to its request, and none after go-to-sleep. A request to the functional address changes nothing.
-- After a slave response frame those of nodes that put nothing
abbrev pub responses_after : Parts → Slot → List (ℕ × List ℕ) → List (ℕ × List ℕ)
responses_after c s ready =
    option_map_or
    (λ bytes.
    if slice_index bytes 0 == 0 then []
    else if slice_index bytes 0 == functional then ready
    else responses_to c (line_of c s.table s.entry).entry)
    (good_under 0x3C s)
    (if header_is 0x7D s.header then filter (λ (r : ℕ × List ℕ). not (has_put s r.0)) ready
    else ready)

-- the responses that responders have ready for the next slave response frame
abbrev pub ready_responses : Parts → List LogEntry → List (ℕ × List ℕ)
ready_responses c [] = []
ready_responses c (e ∷ past) =
    option_map_or
    (λ s. responses_after c s (ready_responses c past)) (finished_slot e past)
    (ready_responses c past)

-- the nodes that are due in a slot for a service: the commander with the request of an entry, and in a
-- slave response the responders that have a response ready
abbrev pub served_nodes : Parts → List LogEntry → Entry → List ℕ
served_nodes c past (Fixed request) = 0 ∷ []
served_nodes c past SlaveResp = map (λ (r : ℕ × List ℕ). r.0) (ready_responses c past)
served_nodes c past entry = []

-- whether a slot for an entry is for a service
abbrev pub is_service : Parts → List LogEntry → Entry → Bool
is_service c past entry = nat_lt 0 (length (served_nodes c past entry))

-- the bytes of a node among responses; those of a node without a response are FF
abbrev pub ready_bytes : List (ℕ × List ℕ) → ℕ → List ℕ
ready_bytes ready n =
    option_map_or
    (λ (r : ℕ × List ℕ). r.1) (find (λ (r : ℕ × List ℕ). r.0 == n) ready) (replicate 8 255)

-- the data bytes that a node puts in a slot for a service, where these responses are ready
abbrev pub service_bytes : List (ℕ × List ℕ) → Entry → ℕ → List ℕ
service_bytes ready (Fixed request) n = request
service_bytes ready entry n = ready_bytes ready n

-- == who is due in a slot for an entry, by rising number
abbrev pub plain_nodes : Parts → List LogEntry → Entry → List ℕ
plain_nodes c past entry = filter (is_due c past entry) (numbers (nodes c))

abbrev pub due_nodes : Parts → List LogEntry → Entry → List ℕ
due_nodes c past entry =
    if is_service c past entry then served_nodes c past entry else plain_nodes c past entry

-- the frame of a sending with this index
abbrev pub frame_at : Parts → Sending → ℕ → List ℕ
frame_at c s k = frame (link_address c s.message.link) s.message.bytes k

-- the frame that puts the cluster to sleep
abbrev pub sleep_frame : List ℕ
sleep_frame = 0 ∷ replicate 7 255

abbrev pub first_frame : Parts → List Sending → List ℕ
first_frame c [] = []
first_frame c (s ∷ ss) = frame_at c s 0

-- the data bytes that a host's node puts: the next frame of what is begun, failing that the sleep
-- frame where sleep is asked, failing that the first frame of what waits
abbrev pub next_frame : Parts → List LogEntry → ℕ → Bool → List ℕ
next_frame c past h sleeping =
    option_map_or
    (λ s. frame_at c s (length (block_frames s.block)))
    (begun_sending c past h)
    (if sleeping then sleep_frame else first_frame c (waiting c past h))

-- a diagnostic frame with its checksum, which is always classic
abbrev pub with_classic : List ℕ → List ℕ
with_classic bytes = bytes ++ classic bytes ∷ []

-- the member of a sporadic frame with this header, and the member of an event-triggered frame that
-- a node publishes
abbrev pub member_under : Parts → ℕ → ℕ → ℕ
member_under c k h = unwrap_or (find (λ f. h == (frame_of c f).pid) (sporadic_of c k)) 0

abbrev pub member_of : Parts → ℕ → ℕ → ℕ
member_of c e n = unwrap_or (find (λ f. n == (frame_of c f).publisher) (event_of c e).frames) 0

-- what a node puts in a slot for an entry under its header, data and checksum
abbrev pub put_bytes : Parts → List LogEntry → Entry → ℕ → ℕ → List ℕ
put_bytes c past (Frame f) h n = answer_of (frame_of c f).model h (signal_bytes c past f)
put_bytes c past (Sporadic k) h n =
    answer_of (frame_of c (member_under c k h)).model h (signal_bytes c past (member_under c k h))
put_bytes c past (Event e) h n = answer_of (event_of c e).model h (signal_bytes c past (member_of c e n))
put_bytes c past MasterReq h n = with_classic (next_frame c past 0 (is_sleep_asked past))
put_bytes c past SlaveResp h n = with_classic (next_frame c past n false)
put_bytes c past (Fixed request) h n = []
put_bytes c past Quiet h n = []

-- what a node puts in a slot
abbrev pub put_by : Parts → List LogEntry → Slot → ℕ → ℕ → List ℕ
put_by c past s h n =
    if s.service
    then with_classic (service_bytes (ready_responses c past) (line_of c s.table s.entry).entry n)
    else put_bytes c past (line_of c s.table s.entry).entry h n

-- the checksum model of the responses in a slot for an entry under its header
abbrev pub model_of : Parts → Entry → ℕ → SumKind
model_of c (Frame f) h = (frame_of c f).model
model_of c (Sporadic k) h = (frame_of c (member_under c k h)).model
model_of c (Event e) h = (event_of c e).model
model_of c entry h = Classic
