-- What a receiver reads is told once.
use Rattle.std.proofs.Common.{◌≡◌, ◌≢◌, ℕ, zero, suc, ◌≤◌, ◌<◌, Bool, true, false, List, [], ◌∷◌, ◌++◌, length, map, refl, ap, sym, ◌∙◌, arith, inl, inr}
use Rattle.std.specs.Prelude.{Option, Some, None, cond, ◌&&◌, ◌==◌, if◌then◌else◌, is_some, filter, zip, drop, filter_map}
use Rattle.std.proofs.lemmas.Bool.Decides.{eqb_tells}
use Rattle.std.proofs.lemmas.Bool.{ne_eqb}
use Rattle.std.proofs.lemmas.List.{append-nil, map-append, drop_at}
use Rattle.lin_frame.specs.Words.{numbers}
use Rattle.lin_transport.specs.Transport.{Ear, Heard, pieces, messages_to}
use Rattle.lin_transport.proofs.Pieces.{reads-nothing}
use Rattle.lin_transport.specs.Transport.Heard.{Reset}
use Rattle.lin_parts.specs.declared.parts.Parts.{Parts}
use Rattle.lin_parts.specs.Cluster.{nad, nodes, line_of}
use Rattle.lin_core.specs.History.{Slot, open_slot, seen_of, reply_events}
use Rattle.lin_core.specs.Links.{Link, same_dir, same_link, Message, host_of, Fate, ear_on, signs, heard_on, waits, reading, Sending, sendings, fate_of}
use Rattle.lin_core.specs.Links.Sign.{Mark}
use Rattle.lin_core.specs.Slots.{put_by, due_nodes, is_service, next_due}
use Rattle.lin_core.specs.Replies.{refusal, put_event, done_events, reply, receiver_of, report, reports, all_reports, new_messages, all_links, finish_events, quiet_entry, service_events, sleeps, link_at}
use Rattle.lin_parts.specs.Sound.{IsSound}
use Rattle.lin_core.specs.declared.log.LogEntry.{LogEntry}
use Rattle.lin_core.specs.declared.port.PortId.{PortId}
use Rattle.lin_core.specs.declared.step.Step.{Step}
use Rattle.lin_core.specs.declared.step.Step.TheVariants.{Send, Write, Open, Answer, Leave, Hurt, Finish, Timeout, Switch, AskSleep, Wake, Close}
use Rattle.lin_core.specs.declared.event.Event.{Event}
use Rattle.lin_core.specs.declared.event.Event.TheVariants.{Due, Put as PutEvent, Message as MessageEvent, Asleep as SleepEvent, Seen as SeenEvent}
use Rattle.lin_core.specs.declared.reply.Reply.TheVariants.{Done, Refused}
use Rattle.lin_core.specs.declared.reply.Refusal.{Refusal}
use Rattle.lin_core.specs.declared.link.Cause.TheVariants.{TimedOut}
use Rattle.lin_core.specs.declared.link.Direction.{Direction}
use Rattle.lin_core.specs.declared.link.Direction.TheVariants.{Down, Up}
use Rattle.lin_transport.proofs.Frames.{and-false}
use Rattle.lin_core.proofs.sendings.Hosts.{HostState, IsLink, on_link, part, on-append}
use Rattle.lin_core.proofs.sendings.Moves.{record_of, same-is}
use Rattle.lin_core.proofs.links.Finishes.{finish_entry, and-true}
use Rattle.lin_core.specs.Links.Fate.{Waiting, Sent, Lost}
use Rattle.lin_core.specs.Runs.{history, entry_of}
use Rattle.lin_core.proofs.steps.Known.{Known, finish-known}
use Rattle.lin_core.proofs.steps.Steps.{history-known}
use Rattle.lin_core.proofs.links.Results.{track-reads}
use Rattle.std.specs.List.{flat_map}
use Rattle.lin_core.proofs.laws.Fixed.{Grows, finish-grows}
use Rattle.std.proofs.lemmas.List.Elements.{filter_map-append}
use Rattle.std.specs.Option.{option_map_or}
use Rattle.lin_core.specs.Reports.{message_for, TellsReading}
use Rattle.lin_core.proofs.links.Tracks.{sent_of, if_sent}
use Rattle.lin_core.proofs.laws.Reports.{flat-append, index-some}

own-messages : (l : Link) (a b : ℕ) (q : Bool) (ms : List (List ℕ)) → (a == host_of l && b == receiver_of l.dir l.node) ≡ q → filter_map (message_for l) (map (λ m. MessageEvent a b m) ms) ≡ (if q then ms else [])
own-messages l a b true [] e = refl
own-messages l a b false [] e = refl
own-messages l a b true (m ∷ ms) e = rw e (ap (λ (x : List (List ℕ)). m ∷ x) (own-messages l a b true ms e))
own-messages l a b false (m ∷ ms) e = rw e (own-messages l a b false ms e)

not-zero : (c : Parts) (n : ℕ) → IsSound c → is_some (nad c n) ≡ true → n ≢ 0
not-zero c n sound a z = let bad : false ≡ true = rw (z, sound.commander) at a in cc

same-ends : (c : Parts) (a b : ℕ) (d e : Direction) → IsSound c → is_some (nad c a) ≡ true → is_some (nad c b) ≡ true
    → (host_of (record_of a d) == host_of (record_of b e) && receiver_of d a == receiver_of e b) ≡ same_link (record_of a d) (record_of b e)
same-ends c a b Down Down sound p q = sym (and-true (a == b))
same-ends c a b Up Up sound p q = refl
same-ends c a b Down Up sound p q = rw (ne_eqb 0 b (λ z. not-zero c b sound q (sym z)), and-false (a == b))
same-ends c a b Up Down sound p q = rw (ne_eqb a 0 (not-zero c a sound p), and-false (a == b))

abbrev new_for : Parts → LogEntry → List LogEntry → Link → List (List ℕ)
new_for c e past l = drop (length (reading c past l)) (reading c (e ∷ past) l)

link-new : (c : Parts) (e : LogEntry) (past : List LogEntry) (l x : Link) (q : Bool) → same_link x l ≡ q → (if q then new_for c e past x else []) ≡ (if q then new_for c e past l else [])
link-new c e past l x true s = ap (new_for c e past) (same-is x l s)
link-new c e past l x false s = refl

one-link : (c : Parts) (e : LogEntry) (past : List LogEntry) (l x : Link) → IsSound c → is_some (nad c x.node) ≡ true → is_some (nad c l.node) ≡ true
    → filter_map (message_for l) (new_messages c e past x) ≡ (if same_link x l then new_for c e past l else [])
one-link c e past l x sound p q =
    own-messages l (host_of x) (receiver_of x.dir x.node) (same_link x l) (new_for c e past x) (same-ends c x.node l.node x.dir l.dir sound p q) ∙ link-new c e past l x (same_link x l) refl

abbrev hit : Parts → LogEntry → List LogEntry → Link → Link → List (List ℕ)
hit c e past l x = if same_link x l then new_for c e past l else []

no-hit : (c : Parts) (e : LogEntry) (past : List LogEntry) (l x : Link) (q : Bool) → same_link x l ≡ q → is_some (nad c x.node) ≡ false → is_some (nad c l.node) ≡ true → (if q then new_for c e past l else []) ≡ []
no-hit c e past l x true s p a = absurd (let bad : true ≡ false = sym a ∙ ap (λ (y : Link). is_some (nad c y.node)) (sym (same-is x l s)) ∙ p in cc)
no-hit c e past l x false s p a = refl

links-if : (c : Parts) (e : LogEntry) (past : List LogEntry) (l x : Link) (xs : List Link) (b : Bool) → is_some (nad c x.node) ≡ b → IsSound c → is_some (nad c l.node) ≡ true
    → filter_map (message_for l) (flat_map (new_messages c e past) (filter (λ x. is_some (nad c x.node)) xs)) ≡ flat_map (hit c e past l) xs
    → filter_map (message_for l) (flat_map (new_messages c e past) (cond b (x ∷ filter (λ x. is_some (nad c x.node)) xs) (filter (λ x. is_some (nad c x.node)) xs))) ≡ flat_map (hit c e past l) (x ∷ xs)
links-if c e past l x xs true p sound a h =
    filter_map-append (message_for l) (new_messages c e past x) (flat_map (new_messages c e past) (filter (λ x. is_some (nad c x.node)) xs))
    ∙ rw (one-link c e past l x sound p a) (ap (λ (y : List (List ℕ)). hit c e past l x ++ y) h)
links-if c e past l x xs false p sound a h = rw (no-hit c e past l x (same_link x l) refl p a) h

links-messages : (c : Parts) (e : LogEntry) (past : List LogEntry) (l : Link) (xs : List Link) → IsSound c → is_some (nad c l.node) ≡ true
    → filter_map (message_for l) (flat_map (new_messages c e past) (filter (λ x. is_some (nad c x.node)) xs)) ≡ flat_map (hit c e past l) xs
links-messages c e past l [] sound a = refl
links-messages c e past l (x ∷ xs) sound a = links-if c e past l x xs (is_some (nad c x.node)) refl sound a (links-messages c e past l xs sound a)

dir-hit : (c : Parts) (e : LogEntry) (past : List LogEntry) (l : Link) (d : Direction) (n : ℕ) → n ≤ l.node → flat_map (hit c e past l) (map (λ x. link_at x d) (numbers n)) ≡ []
dir-hit c e past l d zero h = refl
dir-hit c e past l d (suc n) h =
    ap (flat_map (hit c e past l)) (map-append (λ x. link_at x d) (numbers n) (n ∷ [])) ∙ flat-append (hit c e past l) (map (λ x. link_at x d) (numbers n)) (link_at n d ∷ [])
    ∙ rw (dir-hit c e past l d n (omega arith), ne_eqb n l.node (λ z. omega arith))

dir-there : (c : Parts) (e : LogEntry) (past : List LogEntry) (l : Link) (d : Direction) (n : ℕ) → l.node < n → flat_map (hit c e past l) (map (λ x. link_at x d) (numbers n)) ≡ (if same_dir d l.dir then new_for c e past l else [])
dir-there c e past l d zero h = absurd (omega arith)
dir-there c e past l d (suc n) h =
    ap (flat_map (hit c e past l)) (map-append (λ x. link_at x d) (numbers n) (n ∷ [])) ∙ flat-append (hit c e past l) (map (λ x. link_at x d) (numbers n)) (link_at n d ∷ [])
    ∙ elim (eqb_tells n l.node) [
      | inl same ↦ let z : n ≡ l.node = same.1 in rw (dir-hit c e past l d n (omega arith), same.0) (append-nil (if same_dir d l.dir then new_for c e past l else []))
      | inr differ ↦ let z = differ.1 in rw (dir-there c e past l d n (omega arith), differ.0) (append-nil (if same_dir d l.dir then new_for c e past l else []))
    ]

both-dirs : (d : Direction) (xs : List (List ℕ)) → (if same_dir Down d then xs else []) ++ (if same_dir Up d then xs else []) ≡ xs
both-dirs Down xs = append-nil xs
both-dirs Up xs = refl

all-messages : (c : Parts) (e : LogEntry) (past : List LogEntry) (l : Link) → IsSound c → is_some (nad c l.node) ≡ true → filter_map (message_for l) (flat_map (new_messages c e past) (all_links c)) ≡ new_for c e past l
all-messages c e past l sound a =
    let below : l.node < nodes c = index-some c.nodes l.node a
    in links-messages c e past l (map (λ n. link_at n Down) (numbers (nodes c)) ++ map (λ n. link_at n Up) (numbers (nodes c))) sound a
    ∙ flat-append (hit c e past l) (map (λ n. link_at n Down) (numbers (nodes c))) (map (λ n. link_at n Up) (numbers (nodes c)))
    ∙ rw (dir-there c e past l Down (nodes c) below, dir-there c e past l Up (nodes c) below) (both-dirs l.dir (new_for c e past l))

no-seen : (l : Link) (o : Option Slot) → filter_map (message_for l) (option_map_or (λ s. SeenEvent (seen_of s) ∷ []) o []) ≡ []
no-seen l None = refl
no-seen l (Some s) = refl

no-sleep : (l : Link) (b : Bool) → filter_map (message_for l) (if b then SleepEvent ∷ [] else []) ≡ []
no-sleep l true = refl
no-sleep l false = refl

no-report : (l : Link) (h n : ℕ) (b : Bool) (f : Fate) → filter_map (message_for l) (if b then report h n f else []) ≡ []
no-report l h n true Waiting = refl
no-report l h n true Sent = refl
no-report l h n true (Lost cause) = refl
no-report l h n false f = refl

no-reports : (c : Parts) (l : Link) (h : ℕ) (zs : List (Sending × Sending)) → filter_map (message_for l) (flat_map (λ (s : Sending × Sending). if waits c s.0 then report h s.1.number (fate_of c s.1) else []) zs) ≡ []
no-reports c l h [] = refl
no-reports c l h (z ∷ zs) = filter_map-append (message_for l) (if waits c z.0 then report h z.1.number (fate_of c z.1) else []) _ ∙ rw (no-report l h z.1.number (waits c z.0) (fate_of c z.1)) (no-reports c l h zs)

no-all : (c : Parts) (e : LogEntry) (past : List LogEntry) (l : Link) (hs : List ℕ) → filter_map (message_for l) (flat_map (reports c e past) hs) ≡ []
no-all c e past l [] = refl
no-all c e past l (h ∷ hs) = filter_map-append (message_for l) (reports c e past h) (flat_map (reports c e past) hs) ∙ rw (no-reports c l h (zip (sendings c past h) (sendings c (e ∷ past) h))) (no-all c e past l hs)

finish-messages : (c : Parts) (port : PortId) (past : List LogEntry) (l : Link) → IsSound c → is_some (nad c l.node) ≡ true → filter_map (message_for l) (finish_events c port past) ≡ new_for c (quiet_entry port Finish) past l
finish-messages c port past l sound a =
    let e : LogEntry = quiet_entry port Finish
    in let A : List Event = option_map_or (λ s. SeenEvent (seen_of s) ∷ []) (open_slot past) []
    in let B : List Event = flat_map (new_messages c e past) (all_links c)
    in let C : List Event = if sleeps past then SleepEvent ∷ [] else []
    in filter_map-append (message_for l) ((A ++ B) ++ C) (all_reports c e past)
    ∙ rw (no-all c e past l (numbers (nodes c)), filter_map-append (message_for l) (A ++ B) C, no-sleep l (sleeps past), filter_map-append (message_for l) A B, no-seen l (open_slot past), all-messages c e past l sound a)
    (append-nil (new_for c e past l ++ []) ∙ append-nil (new_for c e past l))

-- readings only grow, and by what is told
pub grows-reading : (c : Parts) (past past' : List LogEntry) (l : Link) → is_some (nad c l.node) ≡ true → (k : Known c past) (k' : Known c past') (g : Grows (k.states (host_of l)) (k'.states (host_of l)))
    → reading c past' l ≡ reading c past l ++ drop (length (reading c past l)) (reading c past' l)
grows-reading c past past' l a k k' g =
    let i : IsLink c (host_of l) l = record { host = refl; address = a }
    in let s : HostState = k.states (host_of l)
    in let s' : HostState = k'.states (host_of l)
    in let old : reading c past l ≡ sent_of (on_link c l s.done) = track-reads (ear_on c l) (heard_on c past l) (signs c past l) (on_link c l s.done) (part c s.rest s.count l) ((k.hosts (host_of l)).links l i)
    in let new : reading c past' l ≡ sent_of (on_link c l s'.done) = track-reads (ear_on c l) (heard_on c past' l) (signs c past' l) (on_link c l s'.done) (part c s'.rest s'.count l) ((k'.hosts (host_of l)).links l i)
    in let more : List (List ℕ) = sent_of (on_link c l g.more)
    in let e : reading c past' l ≡ reading c past l ++ more
    = new ∙ ap (λ (ps : List (Message × Fate)). sent_of (on_link c l ps)) g.is ∙ ap sent_of (on-append c l s.done g.more) ∙ filter_map-append if_sent (on_link c l s.done) (on_link c l g.more)
    ∙ ap (λ (xs : List (List ℕ)). xs ++ more) (sym old)
    in e ∙ ap (λ (xs : List (List ℕ)). reading c past l ++ xs) (sym (ap (drop (length (reading c past l))) e ∙ drop_at (reading c past l) more (length (reading c past l)) refl))

timeout-reading : (e : Ear) (b : Bool) (heard : List Heard) → messages_to e (((if is_some (if b then Some (Mark TimedOut) else None) then Reset ∷ [] else []) ++ []) ++ heard) ≡ messages_to e heard
timeout-reading e true heard = reads-nothing e (pieces heard) [] refl
timeout-reading e false heard = refl

no-due : (l : Link) (ns : List ℕ) → filter_map (message_for l) (map Due ns) ≡ []
no-due l [] = refl
no-due l (n ∷ ns) = no-due l ns

no-opening : (l : Link) (service : Bool) (ns : List ℕ) → filter_map (message_for l) (service_events service ++ map Due ns) ≡ []
no-opening l true ns = no-due l ns
no-opening l false ns = no-due l ns

no-put-event : (l : Link) (node : ℕ) (o : Option ℕ) (f : ℕ → List ℕ) → filter_map (message_for l) (option_map_or (λ x. PutEvent node (f x) ∷ []) o []) ≡ []
no-put-event l node None f = refl
no-put-event l node (Some x) f = refl

no-answer : (c : Parts) (past : List LogEntry) (l : Link) (node : ℕ) (o : Option Slot) → filter_map (message_for l) (option_map_or (put_event c past node) o []) ≡ []
no-answer c past l node None = refl
no-answer c past l node (Some s) = no-put-event l node s.header (λ x. put_by c past s x node)

quiet-reading : (xs ys : List (List ℕ)) → ys ≡ [] → xs ++ ys ≡ xs
quiet-reading xs ys e = ap (λ (z : List (List ℕ)). xs ++ z) e ∙ append-nil xs

step-reading : (c : Parts) (opening capacity : ℕ) (past : List LogEntry) (port : PortId) (step : Step) (l : Link) → IsSound c → is_some (nad c l.node) ≡ true → Known c past → (r : Option Refusal) → refusal c capacity past port step ≡ r
    → reading c past l ++ filter_map (message_for l) (reply_events (option_map_or Refused r (Done (done_events c opening past port step)))) ≡ reading c (record { port = port; step = step; reply = option_map_or Refused r (Done (done_events c opening past port step)) } ∷ past) l
step-reading c opening capacity past port step l sound a k (Some r) e = append-nil (reading c past l)
step-reading c opening capacity past port (Send from to message) l sound a k None e = append-nil (reading c past l)
step-reading c opening capacity past port (Write by signal value) l sound a k None e = append-nil (reading c past l)
step-reading c opening capacity past port Open l sound a k None e = let at : ℕ × ℕ = next_due c opening past in quiet-reading (reading c past l) _ (no-opening l (is_service c past (line_of c at.0 at.1).entry) (due_nodes c past (line_of c at.0 at.1).entry))
step-reading c opening capacity past port (Answer node) l sound a k None e = quiet-reading (reading c past l) _ (no-answer c past l node (open_slot past))
step-reading c opening capacity past port (Leave node) l sound a k None e = append-nil (reading c past l)
step-reading c opening capacity past port (Hurt bytes) l sound a k None e = append-nil (reading c past l)
step-reading c opening capacity past port Finish l sound a k None e =
    let k' : Known c (finish_entry port [] ∷ past) = finish-known c past port [] sound k (open_slot past) refl k.slot
    in let g : Grows (k.states (host_of l)) (k'.states (host_of l)) = finish-grows c past port [] sound k (open_slot past) refl k.slot (host_of l)
    in ap (λ (xs : List (List ℕ)). reading c past l ++ xs) (finish-messages c port past l sound a) ∙ sym (grows-reading c past (finish_entry port [] ∷ past) l a k k' g)
step-reading c opening capacity past port (Timeout node dir) l sound a k None e =
    quiet-reading (reading c past l) _ (no-all c (quiet_entry port (Timeout node dir)) past l (numbers (nodes c))) ∙ sym (timeout-reading (ear_on c l) (same_link l (record_of node dir)) (heard_on c past l))
step-reading c opening capacity past port (Switch table) l sound a k None e = append-nil (reading c past l)
step-reading c opening capacity past port AskSleep l sound a k None e = append-nil (reading c past l)
step-reading c opening capacity past port Wake l sound a k None e = append-nil (reading c past l)
step-reading c opening capacity past port (Close host) l sound a k None e = append-nil (reading c past l)

pub tells-reading : (c : Parts) (opening capacity : ℕ) (steps : List (PortId × Step)) → IsSound c → (l : Link) → is_some (nad c l.node) ≡ true → TellsReading c (history c opening capacity steps) l
unfolding reply
tells-reading c opening capacity [] sound l a = refl
tells-reading c opening capacity (s ∷ earlier) sound l a =
    let past : List LogEntry = history c opening capacity earlier
    in ap (λ (xs : List (List ℕ)). xs ++ filter_map (message_for l) (reply_events (entry_of c opening capacity past s).reply)) (tells-reading c opening capacity earlier sound l a)
    ∙ step-reading c opening capacity past s.0 s.1 l sound a (history-known c opening capacity earlier sound) (refusal c capacity past s.0 s.1) refl
