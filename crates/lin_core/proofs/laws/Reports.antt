-- Each fate is reported once.
use Rattle.lin_parts.specs.declared.parts.Node.{Node}
use Rattle.std.proofs.Common.{◌≡◌, ◌≢◌, ℕ, zero, suc, ◌≤◌, ◌<◌, Bool, true, false, List, [], ◌∷◌, ◌++◌, length, map, refl, ap, sym, ◌∙◌, subst, arith, inl, inr, append_assoc}
use Rattle.std.specs.Prelude.{Option, Some, None, ◌==◌, if◌then◌else◌, is_some, filter, nat_lt, zip, slice_index_or, drop}
use Rattle.std.proofs.lemmas.Bool.Decides.{eqb_tells, nat_tests}
use Rattle.std.proofs.lemmas.Bool.{ne_eqb}
use Rattle.std.proofs.lemmas.List.{append-nil, map-append, append_cancel_left}
use Rattle.lin_frame.specs.Words.{numbers}
use Rattle.lin_parts.specs.declared.parts.Parts.{Parts}
use Rattle.lin_parts.specs.Cluster.{nodes, line_of}
use Rattle.lin_core.specs.History.{Slot, open_slot, is_sleep_asked, is_sleep_slot, seen_of}
use Rattle.lin_core.specs.Links.{Link, same_link, link_of, Message, host_of, home, accepted_from, Sign, Fate, blocks, waits, reading, is_waiting, Sending, sendings, sendings_from, fate_of}
use Rattle.lin_core.specs.Slots.{put_by, due_nodes, is_service, next_due}
use Rattle.lin_core.specs.Replies.{refusal, refusals, put_event, opening_events, done_events, reply, receiver_of, report, reports, all_reports, new_messages, all_links, finish_events, quiet_entry, service_events, sleeps}
use Rattle.lin_parts.specs.Sound.{IsSound}
use Rattle.lin_core.specs.declared.log.LogEntry.{LogEntry}
use Rattle.lin_core.specs.declared.port.PortId.{PortId}
use Rattle.lin_core.specs.declared.step.Step.{Step}
use Rattle.lin_core.specs.declared.step.Step.TheVariants.{Send, Write, Open, Answer, Leave, Hurt, Finish, Timeout, Switch, AskSleep, Wake, Close}
use Rattle.lin_core.specs.declared.event.Event.{Event}
use Rattle.lin_core.specs.declared.event.Event.TheVariants.{Due, Put as PutEvent, Message as MessageEvent, Asleep as SleepEvent, Seen as SeenEvent}
use Rattle.lin_parts.specs.declared.parts.Entry.{Entry}
use Rattle.lin_core.specs.declared.reply.Reply.TheVariants.{Done, Refused}
use Rattle.lin_core.specs.declared.reply.Refusal.{Refusal}
use Rattle.lin_core.specs.declared.link.Cause.TheVariants.{TimedOut}
use Rattle.lin_core.specs.declared.link.Direction.{Direction}
use Rattle.lin_core.specs.declared.link.Direction.TheVariants.{Down, Up}
use Rattle.lin_core.proofs.sendings.Hosts.{HostState, IsLink, AllCanGo, message_of, AllDone, outcome, sending_at}
use Rattle.lin_core.proofs.sendings.Moves.{record_of}
use Rattle.lin_core.proofs.links.Finishes.{finish_entry}
use Rattle.std.proofs.lemmas.List.Elements.{filter-append}
use Rattle.lin_core.specs.Links.Fate.{Waiting, Sent, Lost}
use Rattle.lin_core.specs.Runs.{history}
use Rattle.lin_core.proofs.steps.Known.{SlotIs, Known, finish-known, served-same}
use Rattle.lin_core.proofs.steps.Known.SlotIs.{closed, served, other, master, slave, sleep, carries}
use Rattle.lin_core.proofs.links.Results.{outcomes, waiting_one}
use Rattle.lin_core.proofs.steps.Steps.{step-known, none-of, more_if, start-known, timeout-known, is_open-false}
use Rattle.lin_core.proofs.laws.Ends.{Held, held-now}
use Rattle.std.specs.List.{flat_map}
use Rattle.std.specs.Option.{option_map_or}
use Rattle.lin_core.specs.Reports.{is_report, reports_to, reports_from, ReportsFates}
use Rattle.lin_core.proofs.laws.Fixed.{Grows, finish-grows, marked-grows, waiting-messages}

-- the reports that changed fates make
abbrev changed : ℕ → ℕ → List (Message × Fate) → List (Message × Fate) → List Event
changed h k [] ps = []
changed h k (o ∷ os) [] = []
changed h k (o ∷ os) (p ∷ ps) = (if is_waiting o.1 then report h k p.1 else []) ++ changed h (suc k) os ps

abbrev pub ahead : ℕ → List (Message × Fate) → ℕ
ahead k [] = k
ahead k (p ∷ ps) = ahead (suc k) ps

abbrev told_of : Parts → ℕ → Sending × Sending → List Event
told_of c h s = if waits c s.0 then report h s.1.number (fate_of c s.1) else []

length-more : (before : List Message) (m : Message) → length (before ++ m ∷ []) ≡ suc (length before)
length-more [] m = refl
length-more (x ∷ xs) m = ap suc (length-more xs m)

reports-changed : (c : Parts) (h k : ℕ) (B B' : Link → List (List Sign)) (before before' ms ms' : List Message) → suc (length before') ≡ k
    → flat_map (told_of c h) (zip (sendings_from c B before ms) (sendings_from c B' before' ms')) ≡ changed h k (map (outcome c) (sendings_from c B before ms)) (map (outcome c) (sendings_from c B' before' ms'))
reports-changed c h k B B' before before' [] ms' e = refl
reports-changed c h k B B' before before' (m ∷ ms) [] e = refl
reports-changed c h k B B' before before' (m ∷ ms) (m' ∷ ms') e =
    rw e (ap (λ (xs : List Event). (if waits c (sending_at c B before m) then report h k (fate_of c (sending_at c B' before' m')) else []) ++ xs) (reports-changed c h (suc k) B B' (before ++ m ∷ []) (before' ++ m' ∷ []) ms ms' (ap suc (length-more before' m' ∙ e))))

changed-done : (c : Parts) (x h k : ℕ) (ps xs ys : List (Message × Fate)) → AllDone c x ps → changed h k (ps ++ xs) (ps ++ ys) ≡ changed h (ahead k ps) xs ys
changed-done c x h k [] xs ys d = refl
changed-done c x h k (p ∷ ps) xs ys d = rw d.0.settled (changed-done c x h (suc k) ps xs ys d.1)

changed-waiting : (h k : ℕ) (ms : List Message) (ys : List (Message × Fate)) → map message_of ys ≡ ms → changed h k (map waiting_one ms) ys ≡ reports_from h k ys
changed-waiting h k [] [] e = refl
changed-waiting h k [] (y ∷ ys) e = cc
changed-waiting h k (m ∷ ms) [] e = refl
changed-waiting h k (m ∷ ms) (y ∷ ys) e = ap (λ (xs : List Event). report h k y.1 ++ xs) (changed-waiting h (suc k) ms ys (let t : map message_of ys ≡ ms = cc in t))

numbered-append : (h k : ℕ) (xs ys : List (Message × Fate)) → reports_from h k (xs ++ ys) ≡ reports_from h k xs ++ reports_from h (ahead k xs) ys
numbered-append h k [] ys = refl
numbered-append h k (x ∷ xs) ys = ap (λ (es : List Event). report h k x.1 ++ es) (numbered-append h (suc k) xs ys) ∙ sym (append_assoc (report h k x.1) (reports_from h (suc k) xs) (reports_from h (ahead (suc k) xs) ys))

numbered-waiting : (h k : ℕ) (ms : List Message) → reports_from h k (map waiting_one ms) ≡ []
numbered-waiting h k [] = refl
numbered-waiting h k (m ∷ ms) = numbered-waiting h (suc k) ms

-- what the reports of a finish or a timeout are
pub reports-are : (c : Parts) (e : LogEntry) (past : List LogEntry) (h : ℕ) → IsSound c → (k : Known c past) (k' : Known c (e ∷ past)) (g : Grows (k.states h) (k'.states h))
    → accepted_from (e ∷ past) h ≡ accepted_from past h → reports c e past h ≡ reports_from h (ahead 1 (k.states h).done) g.more
reports-are c e past h sound k k' g same =
    let a : Held c past h (k.states h).done = held-now c past h sound k
    in let b : Held c (e ∷ past) h (k'.states h).done = held-now c (e ∷ past) h sound k'
    in let done : List (Message × Fate) = (k.states h).done
    in let tail : List (Message × Fate) = g.more ++ map waiting_one b.rest
    in let out : map (outcome c) (sendings c past h) ≡ done ++ map waiting_one a.rest = outcomes c h (blocks c past) (accepted_from past h) done a.rest a.block a.holds
    in let out' : map (outcome c) (sendings c (e ∷ past) h) ≡ done ++ tail
    = outcomes c h (blocks c (e ∷ past)) (accepted_from (e ∷ past) h) (k'.states h).done b.rest b.block b.holds ∙ ap (λ (xs : List (Message × Fate)). xs ++ map waiting_one b.rest) g.is ∙ append_assoc done g.more (map waiting_one b.rest)
    in let cut : map message_of done ++ (map message_of g.more ++ b.rest) ≡ map message_of done ++ a.rest
    = sym (append_assoc (map message_of done) (map message_of g.more) b.rest) ∙ ap (λ (xs : List Message). xs ++ b.rest) (sym (map-append message_of done g.more)) ∙ ap (λ (xs : List (Message × Fate)). map message_of xs ++ b.rest) (sym g.is)
    ∙ sym b.holds.accepted_is ∙ same ∙ a.holds.accepted_is
    in let ms : map message_of tail ≡ a.rest
    = map-append message_of g.more (map waiting_one b.rest) ∙ ap (λ (xs : List Message). map message_of g.more ++ xs) (waiting-messages b.rest) ∙ append_cancel_left (map message_of done) (map message_of g.more ++ b.rest) a.rest cut
    in reports-changed c h 1 (blocks c past) (blocks c (e ∷ past)) [] [] (accepted_from past h) (accepted_from (e ∷ past) h) refl
    ∙ ap (λ (xs : List (Message × Fate)). changed h 1 xs (map (outcome c) (sendings c (e ∷ past) h))) out
    ∙ ap (λ (xs : List (Message × Fate)). changed h 1 (done ++ map waiting_one a.rest) xs) out'
    ∙ changed-done c h h 1 done (map waiting_one a.rest) tail (k.hosts h).are_done
    ∙ changed-waiting h (ahead 1 done) a.rest tail ms
    ∙ numbered-append h (ahead 1 done) g.more (map waiting_one b.rest)
    ∙ ap (λ (es : List Event). reports_from h (ahead 1 done) g.more ++ es) (numbered-waiting h (ahead (ahead 1 done) g.more) b.rest)
    ∙ append-nil (reports_from h (ahead 1 done) g.more)

-- reports to one host among those to all
told-own : (h n : ℕ) (f : Fate) → filter (is_report h) (report h n f) ≡ report h n f
told-own h n Waiting = refl
told-own h n Sent = let t : (h == h) ≡ true = grind (arith, nat_tests) in rw t
told-own h n (Lost cause) = let t : (h == h) ≡ true = grind (arith, nat_tests) in rw t

told-other : (h x n : ℕ) (f : Fate) → x ≢ h → filter (is_report h) (report x n f) ≡ []
told-other h x n Waiting d = refl
told-other h x n Sent d = rw (ne_eqb x h d)
told-other h x n (Lost cause) d = rw (ne_eqb x h d)

if-own : (b : Bool) (h n : ℕ) (f : Fate) → filter (is_report h) (if b then report h n f else []) ≡ (if b then report h n f else [])
if-own true h n f = told-own h n f
if-own false h n f = refl

if-other : (b : Bool) (h x n : ℕ) (f : Fate) → x ≢ h → filter (is_report h) (if b then report x n f else []) ≡ []
if-other true h x n f d = told-other h x n f d
if-other false h x n f d = refl

flat-own : (c : Parts) (h : ℕ) (zs : List (Sending × Sending)) → filter (is_report h) (flat_map (told_of c h) zs) ≡ flat_map (told_of c h) zs
flat-own c h [] = refl
flat-own c h (z ∷ zs) = filter-append (is_report h) (told_of c h z) (flat_map (told_of c h) zs) ∙ rw (if-own (waits c z.0) h z.1.number (fate_of c z.1)) (ap (λ (es : List Event). told_of c h z ++ es) (flat-own c h zs))

flat-other : (c : Parts) (h x : ℕ) (zs : List (Sending × Sending)) → x ≢ h → filter (is_report h) (flat_map (told_of c x) zs) ≡ []
flat-other c h x [] d = refl
flat-other c h x (z ∷ zs) d = filter-append (is_report h) (told_of c x z) (flat_map (told_of c x) zs) ∙ rw (if-other (waits c z.0) h x z.1.number (fate_of c z.1) d) (flat-other c h x zs d)

pub flat-append : {X Y : Type 0} (f : X → List Y) (xs ys : List X) → flat_map f (xs ++ ys) ≡ flat_map f xs ++ flat_map f ys
flat-append f [] ys = refl
flat-append f (x ∷ xs) ys = ap (λ (zs : List _). f x ++ zs) (flat-append f xs ys) ∙ sym (append_assoc (f x) (flat_map f xs) (flat_map f ys))

-- each host below n has its own
all-above : (c : Parts) (e : LogEntry) (past : List LogEntry) (h n : ℕ) → n ≤ h → filter (is_report h) (flat_map (reports c e past) (numbers n)) ≡ []
all-above c e past h zero l = refl
all-above c e past h (suc n) l =
    ap (filter (is_report h)) (flat-append (reports c e past) (numbers n) (n ∷ [])) ∙ filter-append (is_report h) (flat_map (reports c e past) (numbers n)) (reports c e past n ++ [])
    ∙ rw (all-above c e past h n (omega arith), append-nil (reports c e past n)) (flat-other c h n (zip (sendings c past n) (sendings c (e ∷ past) n)) (λ z. omega arith))

all-below : (c : Parts) (e : LogEntry) (past : List LogEntry) (h n : ℕ) → h < n → filter (is_report h) (flat_map (reports c e past) (numbers n)) ≡ reports c e past h
all-below c e past h zero l = absurd (omega arith)
all-below c e past h (suc n) l =
    ap (filter (is_report h)) (flat-append (reports c e past) (numbers n) (n ∷ [])) ∙ filter-append (is_report h) (flat_map (reports c e past) (numbers n)) (reports c e past n ++ [])
    ∙ ap (λ (es : List Event). filter (is_report h) (flat_map (reports c e past) (numbers n)) ++ filter (is_report h) es) (append-nil (reports c e past n))
    ∙ elim (eqb_tells n h) [
      | inl same ↦ let z : n ≡ h = same.1 in rw (all-above c e past h n (omega arith)) (subst (λ (x : ℕ). filter (is_report h) (reports c e past x) ≡ reports c e past h) (sym z) (flat-own c h (zip (sendings c past h) (sendings c (e ∷ past) h))))
      | inr differ ↦ let d = differ.1 in rw (all-below c e past h n (omega arith), flat-other c h n (zip (sendings c past n) (sendings c (e ∷ past) n)) d) (append-nil (reports c e past h))
    ]

-- a host that sends is one of the nodes
pub index-some : (xs : List Node) (n : ℕ) → is_some (slice_index_or xs n (record { name = []; nad = None })).nad ≡ true → n < length xs
index-some [] n h = cc
index-some (x ∷ xs) zero h = omega arith
index-some (x ∷ xs) (suc n) h = let l = index-some xs n h in omega arith

pub host-below : (c : Parts) (h node : ℕ) (dir : Direction) → IsLink c h (record_of node dir) → h < nodes c
host-below c h node Down l = let z : 0 ≡ h = l.host in let n = index-some c.nodes node l.address in omega arith
host-below c h node Up l = let z : node ≡ h = l.host in let n = index-some c.nodes node l.address in omega arith

none-accepted : (c : Parts) (h : ℕ) (done : List (Message × Fate)) (rest : List Message) → nodes c ≤ h → AllDone c h done → AllCanGo c h rest → map message_of done ++ rest ≡ []
none-accepted c h [] [] l d g = refl
none-accepted c h [] (m ∷ ms) l d g = absurd (let b = host-below c h (home c m.link).node (home c m.link).dir g.0.home_is in omega arith)
none-accepted c h (p ∷ ps) rest l d g = absurd (let b = host-below c h (home c p.0.link).node (home c p.0.link).dir d.0.go.home_is in omega arith)

reports-nothing : (c : Parts) (e : LogEntry) (past : List LogEntry) (h : ℕ) → accepted_from past h ≡ [] → reports c e past h ≡ []
reports-nothing c e past h n = rw n

all-own-if : (c : Parts) (e : LogEntry) (past : List LogEntry) (h : ℕ) (b : Bool) → nat_lt h (nodes c) ≡ b → Known c past → filter (is_report h) (all_reports c e past) ≡ reports c e past h
all-own-if c e past h true t k = all-below c e past h (nodes c) (grind (arith, nat_tests, t))
all-own-if c e past h false t k =
    let l : nodes c ≤ h = grind (arith, nat_tests, t)
    in let i = k.hosts h
    in let none : accepted_from past h ≡ [] = i.accepted_is ∙ none-accepted c h (k.states h).done (k.states h).rest l i.are_done i.can_go
    in all-above c e past h (nodes c) l ∙ sym (reports-nothing c e past h none)

all-own : (c : Parts) (e : LogEntry) (past : List LogEntry) (h : ℕ) → Known c past → filter (is_report h) (all_reports c e past) ≡ reports c e past h
all-own c e past h k = all-own-if c e past h (nat_lt h (nodes c)) refl k

-- the other events are no reports
none-seen : (h : ℕ) (o : Option Slot) → filter (is_report h) (option_map_or (λ s. SeenEvent (seen_of s) ∷ []) o []) ≡ []
none-seen h None = refl
none-seen h (Some s) = refl

none-message : (h a b : ℕ) (ms : List (List ℕ)) → filter (is_report h) (map (λ m. MessageEvent a b m) ms) ≡ []
none-message h a b [] = refl
none-message h a b (m ∷ ms) = none-message h a b ms

none-messages : (c : Parts) (h : ℕ) (e : LogEntry) (past : List LogEntry) (ls : List Link) → filter (is_report h) (flat_map (new_messages c e past) ls) ≡ []
none-messages c h e past [] = refl
none-messages c h e past (l ∷ ls) = filter-append (is_report h) (new_messages c e past l) (flat_map (new_messages c e past) ls) ∙ rw (none-message h (host_of l) (receiver_of l.dir l.node) (drop (length (reading c past l)) (reading c (e ∷ past) l))) (none-messages c h e past ls)

none-sleep : (h : ℕ) (b : Bool) → filter (is_report h) (if b then SleepEvent ∷ [] else []) ≡ []
none-sleep h true = refl
none-sleep h false = refl

four : (h : ℕ) (a b d e : List Event) → filter (is_report h) a ≡ [] → filter (is_report h) b ≡ [] → filter (is_report h) d ≡ [] → filter (is_report h) (((a ++ b) ++ d) ++ e) ≡ filter (is_report h) e
four h a b d e p q r = rw (filter-append (is_report h) ((a ++ b) ++ d) e, filter-append (is_report h) (a ++ b) d, filter-append (is_report h) a b, p, q, r)

finish-only : (c : Parts) (port : PortId) (past : List LogEntry) (h : ℕ) → filter (is_report h) (finish_events c port past) ≡ filter (is_report h) (all_reports c (quiet_entry port Finish) past)
finish-only c port past h =
    let e : LogEntry = quiet_entry port Finish
    in four h (option_map_or (λ s. SeenEvent (seen_of s) ∷ []) (open_slot past) []) (flat_map (new_messages c e past) (all_links c)) (if sleeps past then SleepEvent ∷ [] else []) (all_reports c e past)
    (none-seen h (open_slot past)) (none-messages c h e past (all_links c)) (none-sleep h (sleeps past))

none-due : (h : ℕ) (ns : List ℕ) → filter (is_report h) (map Due ns) ≡ []
none-due h [] = refl
none-due h (n ∷ ns) = none-due h ns

none-opening : (h : ℕ) (service : Bool) (ns : List ℕ) → filter (is_report h) (service_events service ++ map Due ns) ≡ []
none-opening h true ns = none-due h ns
none-opening h false ns = none-due h ns

none-put : (h node : ℕ) (o : Option ℕ) (f : ℕ → List ℕ) → filter (is_report h) (option_map_or (λ x. PutEvent node (f x) ∷ []) o []) ≡ []
none-put h node None f = refl
none-put h node (Some x) f = refl

none-answer : (c : Parts) (past : List LogEntry) (h node : ℕ) (o : Option Slot) → filter (is_report h) (option_map_or (put_event c past node) o []) ≡ []
none-answer c past h node None = refl
none-answer c past h node (Some s) = none-put h node s.header (λ x. put_by c past s x node)

finish-same : (c : Parts) (past : List LogEntry) (port : PortId) (es : List Event) (sound : IsSound c) (k : Known c past) (o : Option Slot) (is : open_slot past ≡ o) (shape : SlotIs c (is_sleep_asked past) k.states o) (x : ℕ)
    → (finish-known c past port es sound k o is shape).states x ≡ (finish-known c past port [] sound k o is shape).states x
finish-same c past port es sound k None is closed x = refl
finish-same c past port es sound k (Some _) is (served s e) x = served-same c past port es [] s (is_sleep_slot s) is e refl k x
finish-same c past port es sound k (Some _) is (other s p q) x = refl
finish-same c past port es sound k (Some _) is (master table entry due left hurt line only w) x = refl
finish-same c past port es sound k (Some _) is (slave table entry due left hurt h line only w) x = refl
finish-same c past port es sound k (Some _) is (sleep table entry due left true only) x = refl
finish-same c past port es sound k (Some _) is (sleep table entry due left false only) x = refl
finish-same c past port es sound k (Some _) is (carries table entry due left hurt h m ms j only host r n) x = refl

quiet-told : (past : List LogEntry) (h : ℕ) (es ns : List Event) → filter (is_report h) es ≡ [] → reports_to past h ≡ ns → reports_to past h ++ filter (is_report h) es ≡ ns
quiet-told past h es ns e p = ap (λ (x : List Event). reports_to past h ++ x) e ∙ append-nil (reports_to past h) ∙ p

grown-told : (h : ℕ) (a b : HostState) (old new : List Event) (g : Grows a b) → old ≡ reports_from h 1 a.done → new ≡ reports_from h (ahead 1 a.done) g.more → old ++ new ≡ reports_from h 1 b.done
grown-told h a b old new g p q = rw (g.is, p, q) (sym (numbered-append h 1 a.done g.more))

send-done : (b : Bool) (m : Message) (s : HostState) → (more_if b m s).done ≡ s.done
send-done true m s = refl
send-done false m s = refl

step-told : (c : Parts) (opening capacity : ℕ) (past : List LogEntry) (port : PortId) (step : Step) (sound : IsSound c) (k : Known c past) (r : Option Refusal) (e : refusal c capacity past port step ≡ r)
    → ((h : ℕ) → reports_to past h ≡ reports_from h 1 (k.states h).done) → (h : ℕ)
    → reports_to (record { port = port; step = step; reply = option_map_or Refused r (Done (done_events c opening past port step)) } ∷ past) h ≡ reports_from h 1 ((step-known c opening capacity past port step sound k r e).states h).done
step-told c opening capacity past port step sound k (Some r) e p h = append-nil (reports_to past h) ∙ p h
step-told c opening capacity past port (Send from to message) sound k None e p h = append-nil (reports_to past h) ∙ p h ∙ ap (reports_from h 1) (sym (send-done (from == h) (record { link = link_of from to; bytes = message }) (k.states h)))
step-told c opening capacity past port (Write by signal value) sound k None e p h = append-nil (reports_to past h) ∙ p h
step-told c opening capacity past port Open sound k None e p h = let at : ℕ × ℕ = next_due c opening past in let kind : Entry = (line_of c at.0 at.1).entry in quiet-told past h (opening_events c opening past) _ (none-opening h (is_service c past kind) (due_nodes c past kind)) (p h)
step-told c opening capacity past port (Answer node) sound k None e p h = quiet-told past h (option_map_or (put_event c past node) (open_slot past) []) _ (none-answer c past h node (open_slot past)) (p h)
step-told c opening capacity past port (Leave node) sound k None e p h = append-nil (reports_to past h) ∙ p h
step-told c opening capacity past port (Hurt bytes) sound k None e p h = append-nil (reports_to past h) ∙ p h
step-told c opening capacity past port Finish sound k None e p h =
    let k' : Known c (finish_entry port [] ∷ past) = finish-known c past port [] sound k (open_slot past) refl k.slot
    in let g : Grows (k.states h) (k'.states h) = finish-grows c past port [] sound k (open_slot past) refl k.slot h
    in grown-told h (k.states h) (k'.states h) (reports_to past h) (filter (is_report h) (finish_events c port past)) g (p h)
    (finish-only c port past h ∙ all-own c (quiet_entry port Finish) past h k ∙ reports-are c (quiet_entry port Finish) past h sound k k' g refl)
    ∙ ap (λ (s : HostState). reports_from h 1 s.done) (sym (finish-same c past port (done_events c opening past port Finish) sound k (open_slot past) refl k.slot h))
step-told c opening capacity past port (Timeout node dir) sound k None e p h =
    let none = is_open-false (open_slot past) (none-of (refusals c capacity past port (Timeout node dir)) e).1.0
    in let k' : Known c (quiet_entry port (Timeout node dir) ∷ past) = timeout-known c past port node dir [] none k
    in let g : Grows (k.states h) (k'.states h) = marked-grows (λ l. same_link l (record_of node dir)) TimedOut (k.states h).done (k.states h).rest (k.states h).count
    in grown-told h (k.states h) (k'.states h) (reports_to past h) (filter (is_report h) (all_reports c (quiet_entry port (Timeout node dir)) past)) g (p h)
    (all-own c (quiet_entry port (Timeout node dir)) past h k ∙ reports-are c (quiet_entry port (Timeout node dir)) past h sound k k' g refl)
step-told c opening capacity past port (Switch table) sound k None e p h = append-nil (reports_to past h) ∙ p h
step-told c opening capacity past port AskSleep sound k None e p h = append-nil (reports_to past h) ∙ p h
step-told c opening capacity past port Wake sound k None e p h = append-nil (reports_to past h) ∙ p h
step-told c opening capacity past port (Close host) sound k None e p h = append-nil (reports_to past h) ∙ p h

record Told (c : Parts) (past : List LogEntry) : Type 0 where
  known : Known c past
  told : (h : ℕ) → reports_to past h ≡ reports_from h 1 (known.states h).done

history-told : (c : Parts) (opening capacity : ℕ) (steps : List (PortId × Step)) → IsSound c → Told c (history c opening capacity steps)
unfolding reply
history-told c opening capacity [] sound = record { known = start-known c; told = λ h. refl }
history-told c opening capacity (s ∷ earlier) sound =
    let past : List LogEntry = history c opening capacity earlier
    in let k : Told c past = history-told c opening capacity earlier sound
    in record {
      known = step-known c opening capacity past s.0 s.1 sound k.known (refusal c capacity past s.0 s.1) refl;
      told = step-told c opening capacity past s.0 s.1 sound k.known (refusal c capacity past s.0 s.1) refl k.told;
    }

known-told : (c : Parts) (past : List LogEntry) (h : ℕ) → IsSound c → Told c past → ReportsFates c past h
known-told c past h sound k =
    let s : HostState = k.known.states h
    in let a : Held c past h s.done = held-now c past h sound k.known
    in rw (outcomes c h (blocks c past) (accepted_from past h) s.done a.rest a.block a.holds, numbered-append h 1 s.done (map waiting_one a.rest), numbered-waiting h (ahead 1 s.done) a.rest)
    (k.told h ∙ sym (append-nil (reports_from h 1 s.done)))

pub reports-fates : (c : Parts) (opening capacity : ℕ) (steps : List (PortId × Step)) → IsSound c → (h : ℕ) → ReportsFates c (history c opening capacity steps) h
reports-fates c opening capacity steps sound h = known-told c (history c opening capacity steps) h sound (history-told c opening capacity steps sound)
