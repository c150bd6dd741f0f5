-- Where nothing disturbs a cluster, each settled message was sent.
use Rattle.lin_core.specs.Law.{outcomes_of, NoneLost, is_calm, ReadsAll}
use Rattle.std.proofs.Common.{◌≡◌, ℕ, Bool, true, false, List, [], ◌∷◌, ◌++◌, map, refl, ap, sym, ◌∙◌}
use Rattle.std.specs.Prelude.{⊤, Option, Some, None, cond, ◌==◌, if◌then◌else◌, is_some, option_map, filter}
use Rattle.std.proofs.lemmas.List.{append-nil}
use Rattle.std.specs.Option.{option_map_or}
use Rattle.lin_parts.specs.declared.parts.Parts.{Parts}
use Rattle.lin_parts.specs.Cluster.{nad, line_of}
use Rattle.lin_core.specs.History.{Slot, open_slot, slot_after_events, leave, is_sleep_asked, is_sleep_slot}
use Rattle.lin_core.specs.Links.{Link, link_of, Message, host_of, accepted_from, Fate, ear_on, signs, heard_on, blocks, waits, is_waiting, sendings, Sending}
use Rattle.lin_core.specs.Slots.{put_by, header, due_nodes, is_service, next_due}
use Rattle.lin_core.specs.Replies.{refusal, put_event, done_events, reply}
use Rattle.lin_parts.specs.Sound.{IsSound}
use Rattle.lin_core.specs.declared.log.LogEntry.{LogEntry}
use Rattle.lin_core.specs.declared.port.PortId.{PortId}
use Rattle.lin_core.specs.declared.step.Step.{Step}
use Rattle.lin_core.specs.declared.step.Step.TheVariants.{Send, Write, Open, Answer, Leave, Hurt, Finish, Timeout, Switch, AskSleep, Wake, Close}
use Rattle.lin_core.specs.declared.event.Event.{Event}
use Rattle.lin_core.specs.declared.event.Event.TheVariants.{Put as PutEvent}
use Rattle.lin_parts.specs.declared.parts.Entry.{Entry}
use Rattle.lin_core.specs.declared.reply.Reply.TheVariants.{Done, Refused}
use Rattle.lin_core.specs.declared.reply.Refusal.{Refusal}
use Rattle.lin_core.proofs.sendings.Hosts.{HostState, IsLink, on_link, part, message_of, on, outcome_on, AllDone, outcome}
use Rattle.lin_core.proofs.sendings.Moves.{advanced, is_last}
use Rattle.lin_core.proofs.links.Finishes.{finish_entry}
use Rattle.lin_core.specs.Links.Fate.{Sent}
use Rattle.lin_core.specs.Runs.{history}
use Rattle.lin_core.proofs.steps.Known.{SlotIs, Known, finish-known, served-known}
use Rattle.lin_core.proofs.steps.Known.SlotIs.{closed, served, other, master, slave, sleep, carries}
use Rattle.lin_core.proofs.links.Results.{outcomes, track-reads, waiting_one}
use Rattle.lin_core.proofs.steps.Steps.{step-known, more_if, and-parts, told-open, start-known}
use Rattle.lin_core.proofs.laws.Ends.{Held, held-now}
use Rattle.lin_core.proofs.links.Tracks.{sent_of}

abbrev AllSent : List (Message × Fate) → Type 0
AllSent [] = ⊤
AllSent (p ∷ ps) = (p.1 ≡ Sent) × AllSent ps

abbrev is_hurt : Option Slot → Bool
is_hurt None = false
is_hurt (Some s) = s.hurt

record Calm (past : List LogEntry) (states : ℕ → HostState) : Type 0 where
  unhurt : is_hurt (open_slot past) ≡ false
  sent : (h : ℕ) → AllSent (states h).done

sent-more : (ps : List (Message × Fate)) (m : Message) → AllSent ps → AllSent (ps ++ (m, Sent) ∷ [])
sent-more [] m a = (refl, tt)
sent-more (p ∷ ps) m a = (a.0, sent-more ps m a.1)

send-sent : (b : Bool) (m : Message) (s : HostState) → AllSent s.done → AllSent (more_if b m s).done
send-sent true m s a = a
send-sent false m s a = a

advanced-sent : (last : Bool) (s : HostState) (m : Message) (ms : List Message) (k : ℕ) → AllSent s.done → AllSent (advanced false last s.done m ms k).done
advanced-sent true s m ms k a = sent-more s.done m a
advanced-sent false s m ms k a = a

if-sent-state : (b : Bool) (x y : HostState) → AllSent x.done → AllSent y.done → AllSent (if b then x else y).done
if-sent-state true x y p q = p
if-sent-state false x y p q = q

told-unhurt : (o : Option ℕ) (n : ℕ) (f : ℕ → List ℕ) (s : Slot) → (slot_after_events (option_map_or (λ h. PutEvent n (f h) ∷ []) o []) s).hurt ≡ s.hurt
told-unhurt None n f s = refl
told-unhurt (Some h) n f s = refl

answer-unhurt : (c : Parts) (past : List LogEntry) (node : ℕ) (o : Option Slot) → is_hurt o ≡ false → is_hurt (option_map (slot_after_events (option_map_or (put_event c past node) o [])) o) ≡ false
answer-unhurt c past node None h = refl
answer-unhurt c past node (Some s) h = told-unhurt s.header node (λ x. put_by c past s x node) s ∙ h

leave-unhurt : (node : ℕ) (o : Option Slot) → is_hurt o ≡ false → is_hurt (option_map (leave node) o) ≡ false
leave-unhurt node None h = refl
leave-unhurt node (Some s) h = h

served-calm : (c : Parts) (past : List LogEntry) (port : PortId) (es : List Event) (s : Slot) (b : Bool) (is : open_slot past ≡ Some s) (e : s.service ≡ true) (h : is_sleep_slot s ≡ b) (k : Known c past)
    → (is_calm past ≡ true → Calm past k.states) → is_calm (finish_entry port es ∷ past) ≡ true → (x : ℕ) → AllSent ((served-known c past port es s b is e h k).states x).done
served-calm c past port es s true is e h k p q x = absurd (let bad : false ≡ true = rw (is, h) at q in cc)
served-calm c past port es s false is e h k p q x = (p (and-parts _ (is_calm past) q).1).sent x

finish-calm : (c : Parts) (past : List LogEntry) (port : PortId) (es : List Event) (sound : IsSound c) (k : Known c past) (o : Option Slot) (is : open_slot past ≡ o) (shape : SlotIs c (is_sleep_asked past) k.states o)
    → (is_calm past ≡ true → Calm past k.states) → is_calm (finish_entry port es ∷ past) ≡ true → (x : ℕ) → AllSent ((finish-known c past port es sound k o is shape).states x).done
finish-calm c past port es sound k None is closed p q x = (p (and-parts _ (is_calm past) q).1).sent x
finish-calm c past port es sound k (Some _) is (served s e) p q x = served-calm c past port es s (is_sleep_slot s) is e refl k p q x
finish-calm c past port es sound k (Some _) is (other s a b) p q x = (p (and-parts _ (is_calm past) q).1).sent x
finish-calm c past port es sound k (Some _) is (master table entry due left hurt line only w) p q x = (p (and-parts _ (is_calm past) q).1).sent x
finish-calm c past port es sound k (Some _) is (slave table entry due left hurt h line only w) p q x = (p (and-parts _ (is_calm past) q).1).sent x
finish-calm c past port es sound k (Some _) is (sleep table entry due left true only) p q x = (p (and-parts _ (is_calm past) q).1).sent x
finish-calm c past port es sound k (Some _) is (sleep table entry due left false only) p q x = absurd (let bad : false ≡ true = rw is at q in cc)
finish-calm c past port es sound k (Some _) is (carries table entry due left true h m ms j only host r n) p q x =
    absurd (let u : is_hurt (open_slot past) ≡ false = (p (and-parts _ (is_calm past) q).1).unhurt in let bad : true ≡ false = rw is at u in cc)
finish-calm c past port es sound k (Some _) is (carries table entry due left false h m ms j only host r n) p q x =
    let a = p (and-parts _ (is_calm past) q).1
    in if-sent-state (h == x) (advanced false (is_last m.bytes j) (k.states h).done m ms j) (k.states x) (advanced-sent (is_last m.bytes j) (k.states h) m ms j (a.sent h)) (a.sent x)

step-calm : (c : Parts) (opening capacity : ℕ) (past : List LogEntry) (port : PortId) (step : Step) (sound : IsSound c) (k : Known c past) (r : Option Refusal) (e : refusal c capacity past port step ≡ r)
    → (is_calm past ≡ true → Calm past k.states) → is_calm (record { port = port; step = step; reply = option_map_or Refused r (Done (done_events c opening past port step)) } ∷ past) ≡ true
    → Calm (record { port = port; step = step; reply = option_map_or Refused r (Done (done_events c opening past port step)) } ∷ past) (step-known c opening capacity past port step sound k r e).states
step-calm c opening capacity past port step sound k (Some r) e p q = record { unhurt = (p q).unhurt; sent = (p q).sent }
step-calm c opening capacity past port (Send from to message) sound k None e p q = record { unhurt = (p q).unhurt; sent = λ x. send-sent (from == x) (record { link = link_of from to; bytes = message }) (k.states x) ((p q).sent x) }
step-calm c opening capacity past port (Write by signal value) sound k None e p q = record { unhurt = (p q).unhurt; sent = (p q).sent }
step-calm c opening capacity past port Open sound k None e p q = record { unhurt = let at : ℕ × ℕ = next_due c opening past in let kind : Entry = (line_of c at.0 at.1).entry in ap (λ (s : Slot). s.hurt) (told-open (is_service c past kind) (due_nodes c past kind) at.0 at.1 (header c past kind)); sent = (p q).sent }
step-calm c opening capacity past port (Answer node) sound k None e p q = record { unhurt = answer-unhurt c past node (open_slot past) (p q).unhurt; sent = (p q).sent }
step-calm c opening capacity past port (Leave node) sound k None e p q = record { unhurt = leave-unhurt node (open_slot past) (p q).unhurt; sent = (p q).sent }
step-calm c opening capacity past port (Hurt bytes) sound k None e p q = cc
step-calm c opening capacity past port Finish sound k None e p q = record { unhurt = refl; sent = finish-calm c past port (done_events c opening past port Finish) sound k (open_slot past) refl k.slot p q }
step-calm c opening capacity past port (Timeout node dir) sound k None e p q = cc
step-calm c opening capacity past port (Switch table) sound k None e p q = record { unhurt = (p q).unhurt; sent = (p q).sent }
step-calm c opening capacity past port AskSleep sound k None e p q = record { unhurt = (p q).unhurt; sent = (p q).sent }
step-calm c opening capacity past port Wake sound k None e p q = record { unhurt = (p q).unhurt; sent = (p q).sent }
step-calm c opening capacity past port (Close host) sound k None e p q = record { unhurt = (p q).unhurt; sent = (p q).sent }

record KnownCalm (c : Parts) (past : List LogEntry) : Type 0 where
  known : Known c past
  calm : is_calm past ≡ true → Calm past known.states

history-calm : (c : Parts) (opening capacity : ℕ) (steps : List (PortId × Step)) → IsSound c → KnownCalm c (history c opening capacity steps)
unfolding reply
history-calm c opening capacity [] sound = record { known = start-known c; calm = λ q. record { unhurt = refl; sent = λ h. tt } }
history-calm c opening capacity (s ∷ earlier) sound =
    let past : List LogEntry = history c opening capacity earlier
    in let k : KnownCalm c past = history-calm c opening capacity earlier sound
    in record {
      known = step-known c opening capacity past s.0 s.1 sound k.known (refusal c capacity past s.0 s.1) refl;
      calm = step-calm c opening capacity past s.0 s.1 sound k.known (refusal c capacity past s.0 s.1) refl k.calm;
    }

-- where nothing waits, nothing is left
waits-if : (c : Parts) (b : Bool) (x : Sending) (xs : List Sending) (ys : List (Message × Fate)) → map (outcome c) xs ≡ ys → map (outcome c) (cond b (x ∷ xs) xs) ≡ cond b (outcome c x ∷ ys) ys
waits-if c true x xs ys e = ap (λ (zs : List (Message × Fate)). outcome c x ∷ zs) e
waits-if c false x xs ys e = e

pub waits-outcomes : (c : Parts) (xs : List Sending) → map (outcome c) (filter (waits c) xs) ≡ filter (λ (p : Message × Fate). is_waiting p.1) (map (outcome c) xs)
waits-outcomes c [] = refl
waits-outcomes c (x ∷ xs) = waits-if c (waits c x) x (filter (waits c) xs) (filter (λ (p : Message × Fate). is_waiting p.1) (map (outcome c) xs)) (waits-outcomes c xs)

left-by : (b : Bool) (p : Message × Fate) (xs : List (Message × Fate)) (ms : List Message) → (xs ≡ [] → ms ≡ []) → cond b (p ∷ xs) xs ≡ [] → ms ≡ []
left-by true p xs ms f e = cc
left-by false p xs ms f e = f e

left-none : (ps : List (Message × Fate)) (ms : List Message) → filter (λ (p : Message × Fate). is_waiting p.1) (ps ++ map waiting_one ms) ≡ [] → ms ≡ []
left-none [] [] e = refl
left-none [] (m ∷ ms) e = cc
left-none (p ∷ ps) ms e = left-by (is_waiting p.1) p (filter (λ (p : Message × Fate). is_waiting p.1) (ps ++ map waiting_one ms)) ms (left-none ps ms) e

-- all that was settled was read
sent-if : (c : Parts) (b : Bool) (p : Message × Fate) (ps : List (Message × Fate)) (ms : List Message) → p.1 ≡ Sent → sent_of (map (outcome_on c) ps) ≡ map (λ (m : Message). m.bytes) ms
    → sent_of (map (outcome_on c) (cond b (p ∷ ps) ps)) ≡ map (λ (m : Message). m.bytes) (cond b (p.0 ∷ ms) ms)
sent-if c true p ps ms s e = rw s (ap (λ (xs : List (List ℕ)). p.0.bytes ∷ xs) e)
sent-if c false p ps ms s e = e

sent-all : (c : Parts) (l : Link) (ps : List (Message × Fate)) → AllSent ps → sent_of (on_link c l ps) ≡ map (λ (m : Message). m.bytes) (filter (on l) (map message_of ps))
sent-all c l [] a = refl
sent-all c l (p ∷ ps) a = sent-if c (on l p.0) p (filter (λ (q : Message × Fate). on l q.0) ps) (filter (on l) (map message_of ps)) a.0 (sent-all c l ps a.1)

calm-reads : (c : Parts) (past : List LogEntry) (l : Link) → IsSound c → is_some (nad c l.node) ≡ true → KnownCalm c past → is_calm past ≡ true → ReadsAll c past l
calm-reads c past l sound a k q none =
    let i : IsLink c (host_of l) l = record { host = refl; address = a }
    in let s : HostState = k.known.states (host_of l)
    in let hh : Held c past (host_of l) s.done = held-now c past (host_of l) sound k.known
    in let out : map (outcome c) (sendings c past (host_of l)) ≡ s.done ++ map waiting_one hh.rest = outcomes c (host_of l) (blocks c past) (accepted_from past (host_of l)) s.done hh.rest hh.block hh.holds
    in let gone : hh.rest ≡ [] = left-none s.done hh.rest (ap (filter (λ (p : Message × Fate). is_waiting p.1)) (sym out) ∙ sym (waits-outcomes c (sendings c past (host_of l))) ∙ ap (map (outcome c)) none)
    in let all : accepted_from past (host_of l) ≡ map message_of s.done = hh.holds.accepted_is ∙ ap (λ (xs : List Message). map message_of s.done ++ xs) gone ∙ append-nil (map message_of s.done)
    in track-reads (ear_on c l) (heard_on c past l) (signs c past l) (on_link c l s.done) (part c s.rest s.count l) ((k.known.hosts (host_of l)).links l i)
    ∙ sent-all c l s.done ((k.calm q).sent (host_of l))
    ∙ ap (λ (xs : List Message). map (λ (m : Message). m.bytes) (filter (on l) xs)) (sym all)

pub reads-all : (c : Parts) (opening capacity : ℕ) (steps : List (PortId × Step)) → IsSound c → (l : Link) → is_some (nad c l.node) ≡ true → is_calm (history c opening capacity steps) ≡ true → ReadsAll c (history c opening capacity steps) l
reads-all c opening capacity steps sound l a = calm-reads c (history c opening capacity steps) l sound a (history-calm c opening capacity steps sound)

-- no message is lost
none-lost-by : (ps : List (Message × Fate)) (ms : List Message) → AllSent ps → NoneLost (ps ++ map waiting_one ms)
none-lost-by [] [] a = tt
none-lost-by [] (m ∷ ms) a = none-lost-by [] ms tt
none-lost-by ((m, f) ∷ ps) ms a = let e : f ≡ Sent = a.0 in rw e (none-lost-by ps ms a.1)

calm-lossless : (c : Parts) (past : List LogEntry) (h : ℕ) → IsSound c → KnownCalm c past → is_calm past ≡ true → NoneLost (outcomes_of c past h)
calm-lossless c past h sound k q =
    let s : HostState = k.known.states h
    in let hh : Held c past h s.done = held-now c past h sound k.known
    in rw (outcomes c h (blocks c past) (accepted_from past h) s.done hh.rest hh.block hh.holds) (none-lost-by s.done hh.rest ((k.calm q).sent h))

pub none-lost : (c : Parts) (opening capacity : ℕ) (steps : List (PortId × Step)) → IsSound c → (h : ℕ) → is_calm (history c opening capacity steps) ≡ true → NoneLost (outcomes_of c (history c opening capacity steps) h)
none-lost c opening capacity steps sound h q = calm-lossless c (history c opening capacity steps) h sound (history-calm c opening capacity steps sound) q

-- how many messages wait
pub done-still : (c : Parts) (h : ℕ) (ps : List (Message × Fate)) (qs : List (Message × Fate)) → AllDone c h ps → filter (λ (p : Message × Fate). is_waiting p.1) (ps ++ qs) ≡ filter (λ (p : Message × Fate). is_waiting p.1) qs
done-still c h [] qs d = refl
done-still c h (p ∷ ps) qs d = rw d.0.settled (done-still c h ps qs d.1)

pub waiting-all : (ms : List Message) → filter (λ (p : Message × Fate). is_waiting p.1) (map waiting_one ms) ≡ map waiting_one ms
waiting-all [] = refl
waiting-all (m ∷ ms) = ap (λ (xs : List (Message × Fate)). waiting_one m ∷ xs) (waiting-all ms)
