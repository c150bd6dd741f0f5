-- A capture is read as packets, of which the good frames are those that were seen good.
use Rattle.std.proofs.Common.{◌≡◌, ℕ, ◌+◌, ◌-◌, ◌*◌, ◌/◌, ◌%◌, ◌^◌, ◌≤◌, ◌<◌, Bool, true, false, List, [], ◌∷◌, ◌++◌, drop, flat_map, length, map, reverse, take, refl, sym, ap, ◌∙◌, append-nil, arith}
use Rattle.std.specs.Prelude.{◌==◌, if◌then◌else◌, All, Option, Some, None, slice_index, zip}
use Rattle.std.proofs.Math.Seq.{take-append_seam}
use Rattle.std.proofs.lemmas.Grind.{flat_map-append}
use Rattle.std.proofs.lemmas.List.{reverse-append, reverse-reverse}
use Rattle.std.specs.Option.{option_map_or}
use Rattle.lin_frame.specs.declared.sums.SumKind.{SumKind}
use Rattle.lin_frame.specs.declared.sums.SumKind.TheVariants.{Classic, Enhanced}
use Rattle.lin_parts.specs.Cluster.{line_of}
use Rattle.lin_parts.specs.declared.parts.Entry.{Entry}
use Rattle.lin_parts.specs.declared.parts.Parts.{Parts}
use Rattle.lin_core.specs.History.{Slot, events, good_bytes, is_sleep_slot, open_slot, seen_of, seen_by, time}
use Rattle.lin_core.specs.Links.{Fate, Sending, fate_of, host_of, reading, sendings, waits}
use Rattle.lin_core.specs.Links.Fate.{Waiting, Sent, Lost}
use Rattle.lin_core.specs.Replies.{all_links, all_reports, finish_events, new_messages, put_event, quiet_entry, receiver_of, refusal, reply, report, reports, service_events, sleeps}
use Rattle.lin_core.specs.Runs.{entry_of, history}
use Rattle.lin_core.specs.Slots.{due_nodes, is_service, model_of, next_due, put_by}
use Rattle.lin_core.specs.declared.event.Event.{Event}
use Rattle.lin_core.specs.declared.event.Event.TheVariants.{Asleep, Due, Message, Put, Seen as SeenEvent}
use Rattle.lin_core.specs.declared.event.Seen.{Seen}
use Rattle.lin_core.specs.declared.event.Seen.TheVariants.{Silent, NoAnswer, Good, Damaged, Collided}
use Rattle.lin_core.specs.declared.log.LogEntry.{LogEntry}
use Rattle.lin_core.specs.declared.port.PortId.{PortId}
use Rattle.lin_core.specs.declared.reply.Refusal.{Refusal}
use Rattle.lin_core.specs.declared.step.Step.{Step}
use Rattle.lin_core.specs.declared.step.Step.TheVariants.{Send, Write, Open, Answer, Leave, Hurt, Finish, Timeout, Switch, AskSleep, Wake, Close}
use Rattle.lin_core.proofs.slots.ClusterFrames.{all-cons}
use Rattle.lin_export.specs.Captured.{IsCaptured, NeverFall, Packet, good_answer, packet_bytes, seen_answer, seen_answers, time_in, word_in}
use Rattle.lin_export.specs.Pcap.{bus_event, file_header, filled_data, finish_packets, frame_body, framing, bad_checksum, goes_to_sleep, model_number, no_response, packet, packets, seen_packet, wakes, word_bytes}
use Rattle.lin_export.specs.Shown.{checksum_in, data_of}
use Rattle.lin_export.specs.Telling.{each_entry}
use Rattle.lin_export.proofs.Tellings.{each-append}
use Rattle.lin_export.proofs.Wholes.{AreWhole, IsWhole, SlotWhole, given, history-whole}

-- Bytes as packets, with the responses of the good frames.
record Captured (from to : ℕ) (bytes : List ℕ) (answers : List (List ℕ)) : Type 0 where
  packets : List Packet
  same : bytes ≡ flat_map packet_bytes packets
  good : flat_map good_answer packets ≡ answers
  times : NeverFall from packets to

never-more : (from mid to : ℕ) (ps qs : List Packet) → NeverFall from ps mid → NeverFall mid qs to → NeverFall from (ps ++ qs) to
never-more from mid to [] [] h k = omega arith
never-more from mid to [] (q ∷ qs) h k = (omega arith, k.1)
never-more from mid to (p ∷ ps) qs h k = (h.0, never-more p.at mid to ps qs h.1 k)

captured-more : {from mid to : ℕ} {bytes more : List ℕ} {answers others : List (List ℕ)}
    → Captured from mid bytes answers → Captured mid to more others → Captured from to (bytes ++ more) (answers ++ others)
captured-more {from = from} {mid = mid} {to = to} {more = more} {answers = answers} a b = record {
  packets = a.packets ++ b.packets;
  same = ap (λ l. l ++ more) a.same ∙ ap (λ l. flat_map packet_bytes a.packets ++ l) b.same ∙ sym (flat_map-append packet_bytes a.packets b.packets);
  good = flat_map-append good_answer a.packets b.packets ∙ ap (λ (l : List (List ℕ)). l ++ flat_map good_answer b.packets) a.good ∙ ap (λ (l : List (List ℕ)). answers ++ l) b.good;
  times = never-more from mid to a.packets b.packets a.times b.times;
}

none-captured : {from to : ℕ} {answers : List (List ℕ)} → from ≤ to → answers ≡ [] → Captured from to [] answers
none-captured h e = record { packets = []; same = refl; good = sym e; times = h }

one-captured : (at : ℕ) (body : List ℕ) (answers : List (List ℕ)) → good_answer (record { at = at; body = body }) ≡ answers → Captured at at (packet at body) answers
one-captured at body answers e = record {
  packets = record { at = at; body = body } ∷ [];
  same = sym (append-nil (packet at body));
  good = append-nil (good_answer (record { at = at; body = body })) ∙ e;
  times = (omega arith, omega arith);
}

-- a frame's number of data bytes and message type, as they stand in one byte
model-small : (m : SumKind) → (1 ≤ model_number m) × (model_number m ≤ 2)
model-small Classic = (omega arith, omega arith)
model-small Enhanced = (omega arith, omega arith)

count-of : (n m : ℕ) → m ≤ 2 → (16 * n + m) / 16 ≡ n
count-of n m h = omega arith

frame-type : (n m : ℕ) → m ≤ 2 → (16 * n + m) / 4 % 4 ≡ 0
frame-type n m h = omega arith

-- the last byte stands after the others
last-suc : (x : ℕ) (xs : List ℕ) → take (length xs) (x ∷ xs) ++ slice_index (x ∷ xs) (length xs) ∷ [] ≡ x ∷ xs
last-suc x [] = refl
last-suc x (y ∷ ys) = ap (λ l. x ∷ l) (last-suc y ys)

whole-answer : (a : List ℕ) → 1 ≤ length a → data_of a ++ checksum_in a ∷ [] ≡ a
whole-answer [] h = absurd (omega arith)
whole-answer (x ∷ xs) h = let e : length (x ∷ xs) - 1 ≡ length xs = omega arith in rw e (last-suc x xs)

read-data : (a : List ℕ) → take (length (data_of a)) (filled_data (data_of a)) ≡ data_of a
read-data a = take-append_seam (data_of a) _

good-frame : (model : SumKind) (header : ℕ) (a : List ℕ) (at : ℕ) → 1 ≤ length a → good_answer (record { at = at; body = frame_body model header a 0 }) ≡ a ∷ []
good-frame model header a at h =
    let small = model-small model in
    let count : (16 * length (data_of a) + model_number model) / 16 ≡ length (data_of a) = count-of (length (data_of a)) (model_number model) small.1 in
    let kind : (16 * length (data_of a) + model_number model) / 4 % 4 ≡ 0 = frame-type (length (data_of a)) (model_number model) small.1 in
    rw (kind, count) (ap (λ l. l ∷ []) (ap (λ l. l ++ checksum_in a ∷ []) (read-data a) ∙ whole-answer a h))

bad-frame : (model : SumKind) (header errors at : ℕ) → (errors == 0) ≡ false → good_answer (record { at = at; body = frame_body model header [] errors }) ≡ []
bad-frame Classic header errors at e = rw e
bad-frame Enhanced header errors at e = rw e

-- a slot that is finished, by how it was seen
abbrev good_of : Seen → List (List ℕ)
good_of how = option_map_or (λ answer. answer ∷ []) (good_bytes how) []

abbrev HasBytes : Seen → Type 0
HasBytes (Good answer) = 1 ≤ length answer
HasBytes how = 0 ≤ 0

seen-captured : (at : ℕ) (model : SumKind) (header : ℕ) (how : Seen) → HasBytes how → Captured at at (seen_packet at model header how) (good_of how)
seen-captured at model header Silent h = none-captured (omega arith) refl
seen-captured at model header NoAnswer h = one-captured at (frame_body model header [] no_response) [] (bad-frame model header no_response at refl)
seen-captured at model header (Good answer) h = one-captured at (frame_body model header answer 0) (answer ∷ []) (good-frame model header answer at h)
seen-captured at model header Damaged h = one-captured at (frame_body model header [] bad_checksum) [] (bad-frame model header bad_checksum at refl)
seen-captured at model header Collided h = one-captured at (frame_body model header [] framing) [] (bad-frame model header framing at refl)

has-bytes : (header : Option ℕ) (puts : List (ℕ × List ℕ)) (hurt : Bool) → AreWhole puts → HasBytes (seen_by header puts hurt)
has-bytes None puts hurt w = omega arith
has-bytes (Some h) [] hurt w = omega arith
has-bytes (Some h) (p ∷ []) false w = w.0
has-bytes (Some h) (p ∷ []) true w = omega arith
has-bytes (Some h) (p ∷ q ∷ ps) hurt w = omega arith

header-captured : (at : ℕ) (model : ℕ → SumKind) (header : Option ℕ) (puts : List (ℕ × List ℕ)) (hurt : Bool) → AreWhole puts
    → Captured at at (option_map_or (λ h. seen_packet at (model h) h (seen_by header puts hurt)) header []) (good_of (seen_by header puts hurt))
header-captured at model None puts hurt w = none-captured (omega arith) refl
header-captured at model (Some h) puts hurt w = seen-captured at (model h) h (seen_by (Some h) puts hurt) (has-bytes (Some h) puts hurt w)

sleep-captured : (at end : ℕ) (b : Bool) → at ≤ end → Captured at end (if b then packet end (bus_event goes_to_sleep) else []) []
sleep-captured at end true h = record { packets = record { at = end; body = bus_event goes_to_sleep } ∷ []; same = sym (append-nil (packet end (bus_event goes_to_sleep))); good = refl; times = (h, omega arith) }
sleep-captured at end false h = none-captured h refl

slot-captured : (c : Parts) (at : ℕ) (s : Slot) → IsWhole c s → Captured at (at + (line_of c s.table s.entry).delay_us) (finish_packets c at s) (good_of (seen_of s) ++ [])
slot-captured c at s w =
    captured-more (header-captured at (model_of c (line_of c s.table s.entry).entry) s.header s.puts s.hurt w.puts)
    (sleep-captured at (at + (line_of c s.table s.entry).delay_us) (is_sleep_slot s) (omega arith))

-- events that say of no slot how it was seen
abbrev SayNone : List Event → Type 0
SayNone es = flat_map seen_answer es ≡ []

none-both : (xs ys : List Event) → SayNone xs → SayNone ys → SayNone (xs ++ ys)
none-both xs ys p q = flat_map-append seen_answer xs ys ∙ ap (λ (l : List (List ℕ)). l ++ flat_map seen_answer ys) p ∙ q

more-none : (xs ys : List Event) → SayNone ys → flat_map seen_answer (xs ++ ys) ≡ flat_map seen_answer xs
more-none xs ys h = flat_map-append seen_answer xs ys ∙ ap (λ (l : List (List ℕ)). flat_map seen_answer xs ++ l) h ∙ append-nil (flat_map seen_answer xs)

none-flat : {X : Type 0} (f : X → List Event) (xs : List X) → ((x : X) → SayNone (f x)) → SayNone (flat_map f xs)
none-flat f [] h = refl
none-flat f (x ∷ xs) h = none-both (f x) (flat_map f xs) (h x) (none-flat f xs h)

none-map : {X : Type 0} (f : X → Event) (xs : List X) → ((x : X) → seen_answer (f x) ≡ []) → SayNone (map f xs)
none-map f [] h = refl
none-map f (x ∷ xs) h = ap (λ (l : List (List ℕ)). l ++ flat_map seen_answer (map f xs)) (h x) ∙ none-map f xs h

report-none : (b : Bool) (h n : ℕ) (f : Fate) → SayNone (if b then report h n f else [])
report-none true h n Waiting = refl
report-none true h n Sent = refl
report-none true h n (Lost cause) = refl
report-none false h n f = refl

reports-none : (c : Parts) (e : LogEntry) (past : List LogEntry) → SayNone (all_reports c e past)
reports-none c e past =
    none-flat (reports c e past) _ (λ h.
    none-flat (λ (s : Sending × Sending). if waits c s.0 then report h s.1.number (fate_of c s.1) else []) (zip (sendings c past h) (sendings c (e ∷ past) h)) (λ s. report-none (waits c s.0) h s.1.number (fate_of c s.1)))

messages-none : (c : Parts) (e : LogEntry) (past : List LogEntry) → SayNone (flat_map (new_messages c e past) (all_links c))
messages-none c e past = none-flat (new_messages c e past) (all_links c) (λ l. none-map (λ m. Message (host_of l) (receiver_of l.dir l.node) m) (drop (length (reading c past l)) (reading c (e ∷ past) l)) (λ m. refl))

sleep-none : (b : Bool) → SayNone (if b then Asleep ∷ [] else [])
sleep-none true = refl
sleep-none false = refl

service-none : (b : Bool) → SayNone (service_events b)
service-none true = refl
service-none false = refl

put-none : (c : Parts) (past : List LogEntry) (node : ℕ) (s : Slot) (o : Option ℕ) → SayNone (option_map_or (λ h. Put node (put_by c past s h node) ∷ []) o [])
put-none c past node s None = refl
put-none c past node s (Some h) = refl

answer-none : (c : Parts) (past : List LogEntry) (node : ℕ) (o : Option Slot) → SayNone (option_map_or (put_event c past node) o [])
answer-none c past node None = refl
answer-none c past node (Some s) = put-none c past node s s.header

finish-answers : (c : Parts) (port : PortId) (past : List LogEntry)
    → flat_map seen_answer (finish_events c port past) ≡ flat_map seen_answer (option_map_or (λ s. SeenEvent (seen_of s) ∷ []) (open_slot past) [])
finish-answers c port past =
    let e : LogEntry = quiet_entry port Finish in
    let first : List Event = option_map_or (λ s. SeenEvent (seen_of s) ∷ []) (open_slot past) [] in
    let messages : List Event = flat_map (new_messages c e past) (all_links c) in
    let sleep : List Event = if sleeps past then Asleep ∷ [] else [] in
    more-none ((first ++ messages) ++ sleep) (all_reports c e past) (reports-none c e past)
    ∙ more-none (first ++ messages) sleep (sleep-none (sleeps past))
    ∙ more-none first messages (messages-none c e past)

finished-captured : (c : Parts) (at : ℕ) (o : Option Slot) → SlotWhole c o
    → Captured at (option_map_or (λ s. at + (line_of c s.table s.entry).delay_us) o at) (option_map_or (finish_packets c at) o []) (flat_map seen_answer (option_map_or (λ s. SeenEvent (seen_of s) ∷ []) o []))
finished-captured c at None w = none-captured (omega arith) refl
finished-captured c at (Some s) w = slot-captured c at s w

step-captured : (c : Parts) (opening : ℕ) (past : List LogEntry) (port : PortId) (step : Step) (r : Option Refusal) → SlotWhole c (open_slot past)
    → let e : LogEntry = record { port = port; step = step; reply = given c opening past port step r }
    in Captured (time c past) (time c (e ∷ past)) (packets c e past) (flat_map seen_answer (events e))
step-captured c o past port step (Some r) w = none-captured (omega arith) refl
step-captured c o past port (Send from to message) None w = none-captured (omega arith) refl
step-captured c o past port (Write by signal value) None w = none-captured (omega arith) refl
step-captured c o past port Open None w =
    let at : ℕ × ℕ = next_due c o past in
    let entry : Entry = (line_of c at.0 at.1).entry in
    none-captured (omega arith) (none-both (service_events (is_service c past entry)) (map Due (due_nodes c past entry)) (service-none (is_service c past entry)) (none-map Due (due_nodes c past entry) (λ n. refl)))
step-captured c o past port (Answer node) None w = none-captured (omega arith) (answer-none c past node (open_slot past))
step-captured c o past port (Leave node) None w = none-captured (omega arith) refl
step-captured c o past port (Hurt bytes) None w = none-captured (omega arith) refl
step-captured c o past port Finish None w = rw (finish-answers c port past) (finished-captured c (time c past) (open_slot past) w)
step-captured c o past port (Timeout node dir) None w = none-captured (omega arith) (reports-none c (quiet_entry port (Timeout node dir)) past)
step-captured c o past port (Switch table) None w = none-captured (omega arith) refl
step-captured c o past port AskSleep None w = none-captured (omega arith) refl
step-captured c o past port Wake None w = one-captured (time c past) (bus_event wakes) [] refl
step-captured c o past port (Close host) None w = none-captured (omega arith) refl

entry-captured : (c : Parts) (opening capacity : ℕ) (s : PortId × Step) (earlier : List (PortId × Step))
    → let past : List LogEntry = history c opening capacity earlier
    in let e : LogEntry = entry_of c opening capacity past s
    in Captured (time c past) (time c (e ∷ past)) (packets c e past) (flat_map seen_answer (events e))
unfolding reply
entry-captured c opening capacity s earlier =
    let past = history c opening capacity earlier in
    step-captured c opening past s.0 s.1 (refusal c capacity past s.0 s.1) (history-whole c opening capacity earlier)

pub each-newest : (says : LogEntry → List LogEntry → List ℕ) (e : LogEntry) (past : List LogEntry)
    → each_entry says [] (reverse (e ∷ past)) ≡ each_entry says [] (reverse past) ++ says e past
each-newest says e past =
    ap (each_entry says []) (reverse-append (e ∷ []) past) ∙ each-append says [] (reverse past) (e ∷ [])
    ∙ ap (λ (p : List LogEntry). each_entry says [] (reverse past) ++ (says e p ++ [])) (append-nil (reverse (reverse past)) ∙ reverse-reverse past)
    ∙ ap (λ l. each_entry says [] (reverse past) ++ l) (append-nil (says e past))

answers-newest : (e : LogEntry) (past : List LogEntry) → seen_answers (reverse (e ∷ past)) ≡ seen_answers (reverse past) ++ flat_map seen_answer (events e)
answers-newest e past =
    let says : LogEntry → List (List ℕ) = λ (x : LogEntry). flat_map seen_answer (events x) in
    ap (λ (l : List LogEntry). flat_map says l) (reverse-append (e ∷ []) past) ∙ flat_map-append says (reverse past) (e ∷ [])
    ∙ ap (λ (l : List (List ℕ)). flat_map says (reverse past) ++ l) (append-nil (says e))

history-captured : (c : Parts) (opening capacity : ℕ) (steps : List (PortId × Step))
    → let past : List LogEntry = history c opening capacity steps
    in Captured 0 (time c past) (each_entry (packets c) [] (reverse past)) (seen_answers (reverse past))
history-captured c opening capacity [] = none-captured (omega arith) refl
history-captured c opening capacity (s ∷ earlier) =
    let past = history c opening capacity earlier in
    let e : LogEntry = entry_of c opening capacity past s in
    rw (each-newest (packets c) e past, answers-newest e past) (captured-more (history-captured c opening capacity earlier) (entry-captured c opening capacity s earlier))

-- times, as they stand in the bytes of packets
word-read : (n : ℕ) → n < 2 ^ 32 → word_in (word_bytes n) ≡ n
word-read n h = omega arith

time-read : (at : ℕ) (body : List ℕ) → at < 2 ^ 32 * 1000000 → time_in (packet at body) ≡ at
time-read at body h =
    ap (λ n. 1000000 * n + word_in (word_bytes (at % 1000000))) (word-read (at / 1000000) (omega arith))
    ∙ ap (λ n. 1000000 * (at / 1000000) + n) (word-read (at % 1000000) (omega arith))
    ∙ omega arith

never-within : (from : ℕ) (ps : List Packet) (to : ℕ) → NeverFall from ps to → from ≤ to
never-within from [] to h = h
never-within from (p ∷ ps) to h = let k = never-within p.at ps to h.1 in let l = h.0 in omega arith

times-read : (from : ℕ) (ps : List Packet) (to : ℕ) → NeverFall from ps to → to < 2 ^ 32 * 1000000 → All (λ (p : Packet). time_in (packet_bytes p) ≡ p.at) ps
times-read from [] to h l = λ k d below. absurd (omega arith)
times-read from (p ∷ ps) to h l =
    let within = never-within p.at ps to h.1 in
    all-cons (λ (p : Packet). time_in (packet_bytes p) ≡ p.at) p ps (time-read p.at p.body (omega arith)) (times-read p.at ps to h.1 l)

pub history-read : (c : Parts) (opening capacity : ℕ) (steps : List (PortId × Step)) → IsCaptured c (history c opening capacity steps)
history-read c opening capacity steps =
    let past = history c opening capacity steps in
    let k : Captured 0 (time c past) (each_entry (packets c) [] (reverse past)) (seen_answers (reverse past)) = history-captured c opening capacity steps in
    record {
      packets = k.packets;
      bytes = ap (λ l. file_header ++ l) k.same;
      answers = k.good;
      times = k.times;
      read = times-read 0 k.packets (time c past) k.times;
    }
