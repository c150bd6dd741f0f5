-- Slots, due nodes and puts are as defined; blocks by index; a sound cluster.
use Rattle.lin_core.proofs.examples.Rows.{cluster_a}
use Rattle.std.proofs.Common.{◌≡◌, ℕ, zero, suc, ◌≤◌, ◌<◌, Bool, true, false, List, [], ◌∷◌, ◌++◌, length, map, refl, sym, ◌∙◌, arith}
use Rattle.std.specs.Prelude.{Option, Some, None, if◌then◌else◌, zip, slice_index_or, drop}
use Rattle.lin_frame.specs.Words.{numbers}
use Rattle.lin_parts.specs.declared.parts.Parts.{Parts}
use Rattle.lin_parts.specs.Cluster.{nad, nodes, line_of}
use Rattle.lin_core.specs.History.{Slot, open_slot, seen_of, reply_events, done, done_step, events}
use Rattle.lin_core.specs.Links.{Link, host_of, Sign, Fate, waits, block_frames, reading, fate, is_waiting, Sending, sendings, fate_of}
use Rattle.lin_core.specs.Slots.{put_by, due_nodes, is_service, next_due}
use Rattle.lin_core.specs.Replies.{refusal, put_event, done_events, reply, receiver_of, report, reports, all_reports, new_messages, all_links, quiet_entry, service_events, sleeps}
use Rattle.lin_parts.specs.Sound.{IsSound}
use Rattle.lin_core.specs.declared.log.LogEntry.{LogEntry}
use Rattle.lin_core.specs.declared.port.PortId.{PortId}
use Rattle.lin_core.specs.declared.step.Step.{Step}
use Rattle.lin_core.specs.declared.step.Step.TheVariants.{Send, Write, Open, Answer, Leave, Hurt, Finish, Timeout, Switch, AskSleep, Wake, Close}
use Rattle.lin_core.specs.declared.event.Event.{Event}
use Rattle.lin_core.specs.declared.event.Event.TheVariants.{Due, Put as PutEvent, Message as MessageEvent, Asleep as SleepEvent, Seen as SeenEvent}
use Rattle.lin_core.specs.declared.reply.Reply.TheVariants.{Done, Refused}
use Rattle.lin_core.specs.declared.reply.Refusal.{Refusal}
use Rattle.lin_core.specs.Links.Fate.{Waiting, Sent, Lost}
use Rattle.lin_core.specs.Runs.{history, entry_of}
use Rattle.lin_core.specs.Law.{InOrder, IsPrefix}
use Rattle.std.specs.List.{flat_map}
use Rattle.std.specs.Option.{option_map_or}
use Rattle.lin_core.specs.Defined.{AreDefined, TellsDue}
use Rattle.lin_core.specs.declared.reply.Reply.{Reply}

both : (c : Parts) (o : ℕ) (d : Option Step) (past : List LogEntry) (xs ys : List Event) → AreDefined c o d past xs → AreDefined c o d past ys → AreDefined c o d past (xs ++ ys)
both c o d past [] ys p q = q
both c o d past (x ∷ xs) ys p q = (p.0, both c o d past xs ys p.1 q)

seen-defined : (c : Parts) (o : ℕ) (d : Option Step) (past : List LogEntry) (s : Option Slot) → AreDefined c o d past (option_map_or (λ s. SeenEvent (seen_of s) ∷ []) s [])
seen-defined c o d past None = tt
seen-defined c o d past (Some s) = (tt, tt)

message-defined : (c : Parts) (o : ℕ) (d : Option Step) (past : List LogEntry) (a b : ℕ) (ms : List (List ℕ)) → AreDefined c o d past (map (λ m. MessageEvent a b m) ms)
message-defined c o d past a b [] = tt
message-defined c o d past a b (m ∷ ms) = (tt, message-defined c o d past a b ms)

messages-defined : (c : Parts) (o : ℕ) (d : Option Step) (past : List LogEntry) (e : LogEntry) (ls : List Link) → AreDefined c o d past (flat_map (new_messages c e past) ls)
messages-defined c o d past e [] = tt
messages-defined c o d past e (l ∷ ls) = both c o d past (new_messages c e past l) (flat_map (new_messages c e past) ls) (message-defined c o d past (host_of l) (receiver_of l.dir l.node) (drop (length (reading c past l)) (reading c (e ∷ past) l))) (messages-defined c o d past e ls)

sleep-defined : (c : Parts) (o : ℕ) (d : Option Step) (past : List LogEntry) (b : Bool) → AreDefined c o d past (if b then SleepEvent ∷ [] else [])
sleep-defined c o d past true = (tt, tt)
sleep-defined c o d past false = tt

report-defined : (c : Parts) (o : ℕ) (d : Option Step) (past : List LogEntry) (h n : ℕ) (b : Bool) (f : Fate) → AreDefined c o d past (if b then report h n f else [])
report-defined c o d past h n true Waiting = tt
report-defined c o d past h n true Sent = (tt, tt)
report-defined c o d past h n true (Lost cause) = (tt, tt)
report-defined c o d past h n false f = tt

flat-defined : (c : Parts) (o : ℕ) (d : Option Step) (past : List LogEntry) (h : ℕ) (zs : List (Sending × Sending)) → AreDefined c o d past (flat_map (λ (s : Sending × Sending). if waits c s.0 then report h s.1.number (fate_of c s.1) else []) zs)
flat-defined c o d past h [] = tt
flat-defined c o d past h (z ∷ zs) = both c o d past (if waits c z.0 then report h z.1.number (fate_of c z.1) else []) (flat_map (λ (s : Sending × Sending). if waits c s.0 then report h s.1.number (fate_of c s.1) else []) zs) (report-defined c o d past h z.1.number (waits c z.0) (fate_of c z.1)) (flat-defined c o d past h zs)

all-defined : (c : Parts) (o : ℕ) (d : Option Step) (past : List LogEntry) (e : LogEntry) (hs : List ℕ) → AreDefined c o d past (flat_map (reports c e past) hs)
all-defined c o d past e [] = tt
all-defined c o d past e (h ∷ hs) = both c o d past (reports c e past h) (flat_map (reports c e past) hs) (flat-defined c o d past h (zip (sendings c past h) (sendings c (e ∷ past) h))) (all-defined c o d past e hs)

due-defined : (c : Parts) (o : ℕ) (past : List LogEntry) (ns : List ℕ) → AreDefined c o (Some Open) past (map Due ns)
due-defined c o past [] = tt
due-defined c o past (n ∷ ns) = (refl, due-defined c o past ns)

opening-defined : (c : Parts) (o : ℕ) (past : List LogEntry) (service : Bool) (ns : List ℕ) → AreDefined c o (Some Open) past (service_events service ++ map Due ns)
opening-defined c o past true ns = (refl, due-defined c o past ns)
opening-defined c o past false ns = due-defined c o past ns

put-defined : (c : Parts) (o : ℕ) (d : Option Step) (past : List LogEntry) (node : ℕ) (s : Slot) (h : Option ℕ) → open_slot past ≡ Some s → s.header ≡ h
    → AreDefined c o d past (option_map_or (λ x. PutEvent node (put_by c past s x node) ∷ []) h [])
put-defined c o d past node s None is e = tt
put-defined c o d past node s (Some x) is e = ((s, x, is, e, refl), tt)

answer-defined : (c : Parts) (o : ℕ) (d : Option Step) (past : List LogEntry) (node : ℕ) (s : Option Slot) → open_slot past ≡ s → AreDefined c o d past (option_map_or (put_event c past node) s [])
answer-defined c o d past node None is = tt
answer-defined c o d past node (Some s) is = put-defined c o d past node s s.header is refl

abbrev given : Parts → ℕ → List LogEntry → PortId → Step → Option Refusal → Reply
given c opening past port step r = option_map_or Refused r (Done (done_events c opening past port step))

step-defined : (c : Parts) (opening : ℕ) (past : List LogEntry) (port : PortId) (step : Step) (r : Option Refusal)
    → AreDefined c opening (done_step (given c opening past port step r) step) past (reply_events (given c opening past port step r))
step-defined c o past port step (Some r) = tt
step-defined c o past port (Send from to message) None = (tt, tt)
step-defined c o past port (Write by signal value) None = tt
step-defined c o past port Open None = let at : ℕ × ℕ = next_due c o past in ((refl, refl, refl), opening-defined c o past (is_service c past (line_of c at.0 at.1).entry) (due_nodes c past (line_of c at.0 at.1).entry))
step-defined c o past port (Answer node) None = answer-defined c o (Some (Answer node)) past node (open_slot past) refl
step-defined c o past port (Leave node) None = tt
step-defined c o past port (Hurt bytes) None = tt
step-defined c o past port Finish None =
    let e : LogEntry = quiet_entry port Finish
    in let d : Option Step = Some Finish
    in let A : List Event = option_map_or (λ s. SeenEvent (seen_of s) ∷ []) (open_slot past) []
    in let B : List Event = flat_map (new_messages c e past) (all_links c)
    in let C : List Event = if sleeps past then SleepEvent ∷ [] else []
    in both c o d past ((A ++ B) ++ C) (all_reports c e past)
    (both c o d past (A ++ B) C (both c o d past A B (seen-defined c o d past (open_slot past)) (messages-defined c o d past e (all_links c))) (sleep-defined c o d past (sleeps past)))
    (all-defined c o d past e (numbers (nodes c)))
step-defined c o past port (Timeout node dir) None = all-defined c o (Some (Timeout node dir)) past (quiet_entry port (Timeout node dir)) (numbers (nodes c))
step-defined c o past port (Switch table) None = tt
step-defined c o past port AskSleep None = tt
step-defined c o past port Wake None = tt
step-defined c o past port (Close host) None = tt

pub slots-defined : (c : Parts) (opening capacity : ℕ) (s : PortId × Step) (earlier : List (PortId × Step))
    → AreDefined c opening (done (entry_of c opening capacity (history c opening capacity earlier) s)) (history c opening capacity earlier) (events (entry_of c opening capacity (history c opening capacity earlier) s))
unfolding reply
slots-defined c opening capacity s earlier = step-defined c opening (history c opening capacity earlier) s.0 s.1 (refusal c capacity (history c opening capacity earlier) s.0 s.1)

step-due : (c : Parts) (opening : ℕ) (past : List LogEntry) (port : PortId) (step : Step) (r : Option Refusal)
    → TellsDue c (record { port = port; step = step; reply = given c opening past port step r }) past
step-due c o past port step (Some r) is = cc
step-due c o past port (Send from to message) None is = cc
step-due c o past port (Write by signal value) None is = cc
step-due c o past port Open None is = (_, _, _, refl)
step-due c o past port (Answer node) None is = cc
step-due c o past port (Leave node) None is = cc
step-due c o past port (Hurt bytes) None is = cc
step-due c o past port Finish None is = cc
step-due c o past port (Timeout node dir) None is = cc
step-due c o past port (Switch table) None is = cc
step-due c o past port AskSleep None is = cc
step-due c o past port Wake None is = cc
step-due c o past port (Close host) None is = cc

pub dues-told : (c : Parts) (opening capacity : ℕ) (s : PortId × Step) (earlier : List (PortId × Step))
    → TellsDue c (entry_of c opening capacity (history c opening capacity earlier) s) (history c opening capacity earlier)
unfolding reply
dues-told c opening capacity s earlier = step-due c opening (history c opening capacity earlier) s.0 s.1 (refusal c capacity (history c opening capacity earlier) s.0 s.1)

-- blocks by index
pub order-few : (fss : List (List (List ℕ))) (bs : List (List Sign)) → InOrder fss bs → length bs ≤ length fss
order-few fss [] o = omega arith
order-few [] (b ∷ bs) o = absurd o
order-few (fs ∷ fss) (b ∷ []) o = omega arith
order-few (fs ∷ fss) (b ∷ d ∷ bs) o = let r = order-few fss (d ∷ bs) o.2 in omega arith

pub order-begins : (fss : List (List (List ℕ))) (bs : List (List Sign)) → InOrder fss bs → (i : ℕ) → i < length bs → IsPrefix (block_frames (slice_index_or bs i [])) (slice_index_or fss i [])
order-begins fss [] o i l = absurd (omega arith)
order-begins [] (b ∷ bs) o i l = absurd o
order-begins (fs ∷ fss) (b ∷ []) o zero l = o
order-begins (fs ∷ fss) (b ∷ []) o (suc i) l = absurd (omega arith)
order-begins (fs ∷ fss) (b ∷ d ∷ bs) o zero l = o.0
order-begins (fs ∷ fss) (b ∷ d ∷ bs) o (suc i) l = order-begins fss (d ∷ bs) o.2 i (omega arith)

pub order-settled : (fss : List (List (List ℕ))) (bs : List (List Sign)) → InOrder fss bs → (i : ℕ) → suc i < length bs → is_waiting (fate (slice_index_or fss i []) (slice_index_or bs i [])) ≡ false
order-settled fss [] o i l = absurd (omega arith)
order-settled [] (b ∷ bs) o i l = absurd o
order-settled (fs ∷ fss) (b ∷ []) o i l = absurd (omega arith)
order-settled (fs ∷ fss) (b ∷ d ∷ bs) o zero l = o.1
order-settled (fs ∷ fss) (b ∷ d ∷ bs) o (suc i) l = order-settled fss (d ∷ bs) o.2 i (omega arith)

-- the cluster of the worked rows is sound
nad-one : (j n : ℕ) → nad cluster_a j ≡ Some n → (j ≡ 1) × (n ≡ 1)
nad-one zero n e = cc
nad-one (suc zero) n e = (refl, (let h : 1 ≡ n = cc in sym h))
nad-one (suc (suc j)) n e = cc

pub sound-a : IsSound cluster_a
sound-a = record {
  apart = λ j k n p q. (nad-one j n p).0 ∙ sym (nad-one k n q).0;
  some = λ k n p. let h : n ≡ 1 = (nad-one k n p).1 in omega arith;
  most = λ k n p. let h : n ≡ 1 = (nad-one k n p).1 in omega arith;
  few = λ k n p. let h : k ≡ 1 = (nad-one k n p).0 in omega arith;
  commander = refl;
  frames = λ f. record { request = λ e. omega arith; response = λ e. omega arith };
  events = λ f. record { request = λ e. omega arith; response = λ e. omega arith };
}
