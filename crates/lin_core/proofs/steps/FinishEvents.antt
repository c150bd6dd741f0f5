-- The events of a finish: nothing but how the slot was seen, or one message more.
use Rattle.std.proofs.Common.{◌≡◌, ℕ, zero, suc, ◌≤◌, ◌<◌, Bool, true, false, List, [], ◌∷◌, ◌++◌, length, map, refl, ap, sym, ◌∙◌, arith, inl, inr, subst, ◌≢◌}
use Rattle.std.specs.Prelude.{Some, cond, ◌==◌, if◌then◌else◌, is_some, filter, drop, ◌+◌, Option, None}
use Rattle.std.proofs.lemmas.Bool.Decides.{eqb_tells, nat_tests}
use Rattle.std.proofs.lemmas.Bool.{ne_eqb}
use Rattle.std.proofs.lemmas.List.{append-nil, map-append, drop_at}
use Rattle.lin_frame.specs.Words.{numbers}
use Rattle.lin_parts.specs.Cluster.{nad, nodes}
use Rattle.lin_parts.specs.declared.parts.Parts.{Parts}
use Rattle.lin_core.specs.History.{Slot, open_slot, seen_of, header_is, is_sleep_slot}
use Rattle.lin_core.specs.Links.{Link, same_dir, same_link, Message, host_of, Fate, ear_on, goes_over, home, is_down, is_to_all, signs, heard_on, reading, accepted_from}
use Rattle.lin_parts.specs.Sound.{IsSound}
use Rattle.lin_core.specs.declared.log.LogEntry.{LogEntry}
use Rattle.lin_core.specs.declared.port.PortId.{PortId}
use Rattle.lin_core.specs.declared.step.Step.TheVariants.{Finish, Timeout}
use Rattle.lin_core.specs.declared.event.Event.{Event}
use Rattle.lin_core.specs.declared.link.Direction.{Direction}
use Rattle.lin_core.specs.declared.link.Direction.TheVariants.{Down, Up}
use Rattle.lin_core.proofs.sendings.Hosts.{CanGo, HostState, IsLink, on, on_link, part, on-append, same-self, AllCanGo}
use Rattle.lin_core.proofs.sendings.Moves.{same-is, over-all, over-host, over-one, marked, record_of, to-all-is}
use Rattle.lin_core.specs.Links.Fate.{Sent, Waiting, Lost}
use Rattle.lin_core.proofs.steps.Known.{Known}
use Rattle.lin_core.proofs.links.Results.{track-reads}
use Rattle.lin_core.specs.Replies.{receiver_of, reports, all_reports, new_messages, all_links, finish_events, quiet_entry, link_at, report, sleeps}
use Rattle.std.specs.List.{flat_map}
use Rattle.lin_core.specs.declared.event.Event.TheVariants.{Message as MessageEvent, Seen as SeenEvent, Lost as LostEvent, Asleep as SleepEvent}
use Rattle.lin_core.proofs.laws.Fixed.{Grows}
use Rattle.std.proofs.lemmas.List.Elements.{filter_map-append}
use Rattle.lin_core.proofs.links.Tracks.{sent_of, if_sent}
use Rattle.lin_core.proofs.laws.Reports.{flat-append, index-some, reports-are, ahead, host-below}
use Rattle.lin_core.specs.Reports.{reports_from}
use Rattle.lin_core.specs.kept.Hosts.{told_to, told_to_all}
use Rattle.lin_core.specs.declared.link.Cause.{Cause}
use Rattle.lin_core.specs.declared.link.Cause.TheVariants.{TimedOut, Slept}
use Rattle.lin_core.proofs.links.Finishes.{frame_slot, slot_of, same-cond, IsFrameOf}
use Rattle.lin_core.proofs.steps.Steps.{timeout-known}

-- one item of a list of numbers alone has something
above-none : {Y : Type 0} (f : ℕ → List Y) (h n : ℕ) (xs : List Y) → ((x : ℕ) → f x ≡ (if h == x then xs else [])) → n ≤ h → flat_map f (numbers n) ≡ []
above-none f h zero xs each l = refl
above-none f h (suc n) xs each l =
    flat-append f (numbers n) (n ∷ []) ∙ rw (above-none f h n xs each (omega arith), each n, ne_eqb h n (λ z. omega arith))

pub only-one : {Y : Type 0} (f : ℕ → List Y) (h n : ℕ) (xs : List Y) → ((x : ℕ) → f x ≡ (if h == x then xs else [])) → h < n → flat_map f (numbers n) ≡ xs
only-one f h zero xs each l = absurd (omega arith)
only-one f h (suc n) xs each l =
    flat-append f (numbers n) (n ∷ []) ∙ elim (eqb_tells h n) [
      | inl same ↦ let z : h ≡ n = same.1 in rw (above-none f h n xs each (omega arith), each n, same.0) (append-nil xs)
      | inr differ ↦ let d = differ.1 in rw (only-one f h n xs each (omega arith), each n, differ.0) (append-nil xs)
    ]

-- and one link of all
dir-none : {Y : Type 0} (c : Parts) (f : Link → List Y) (l : Link) (d : Direction) (n : ℕ) (xs : List Y) → ((x : Link) → f x ≡ (if same_link x l then xs else [])) → n ≤ l.node → flat_map f (map (λ x. link_at x d) (numbers n)) ≡ []
dir-none c f l d zero xs each h = refl
dir-none c f l d (suc n) xs each h =
    ap (flat_map f) (map-append (λ x. link_at x d) (numbers n) (n ∷ [])) ∙ flat-append f (map (λ x. link_at x d) (numbers n)) (link_at n d ∷ [])
    ∙ rw (dir-none c f l d n xs each (omega arith), each (link_at n d), ne_eqb n l.node (λ z. omega arith))

dir-one : {Y : Type 0} (c : Parts) (f : Link → List Y) (l : Link) (d : Direction) (n : ℕ) (xs : List Y) → ((x : Link) → f x ≡ (if same_link x l then xs else [])) → l.node < n
    → flat_map f (map (λ x. link_at x d) (numbers n)) ≡ (if same_dir d l.dir then xs else [])
dir-one c f l d zero xs each h = absurd (omega arith)
dir-one c f l d (suc n) xs each h =
    ap (flat_map f) (map-append (λ x. link_at x d) (numbers n) (n ∷ [])) ∙ flat-append f (map (λ x. link_at x d) (numbers n)) (link_at n d ∷ [])
    ∙ elim (eqb_tells n l.node) [
      | inl same ↦ let z : n ≡ l.node = same.1 in rw (dir-none c f l d n xs each (omega arith), each (link_at n d), same.0) (append-nil (if same_dir d l.dir then xs else []))
      | inr differ ↦ let z = differ.1 in rw (dir-one c f l d n xs each (omega arith), each (link_at n d), differ.0) (append-nil (if same_dir d l.dir then xs else []))
    ]

dirs-both : {Y : Type 0} (d : Direction) (xs : List Y) → (if same_dir Down d then xs else []) ++ (if same_dir Up d then xs else []) ≡ xs
dirs-both Down xs = append-nil xs
dirs-both Up xs = refl

-- f, and nothing where the node has no address
abbrev if_link : {Y : Type 0} → Parts → (Link → List Y) → Link → List Y
if_link c f x = if is_some (nad c x.node) then f x else []

links-by : {Y : Type 0} (c : Parts) (f : Link → List Y) (x : Link) (xs : List Link) (b : Bool) → is_some (nad c x.node) ≡ b
    → flat_map f (filter (λ y. is_some (nad c y.node)) xs) ≡ flat_map (if_link c f) xs
    → flat_map f (cond b (x ∷ filter (λ y. is_some (nad c y.node)) xs) (filter (λ y. is_some (nad c y.node)) xs)) ≡ (if b then f x else []) ++ flat_map (if_link c f) xs
links-by c f x xs true e h = ap (λ (ys : List _). f x ++ ys) h
links-by c f x xs false e h = h

links-filtered : {Y : Type 0} (c : Parts) (f : Link → List Y) (xs : List Link) → flat_map f (filter (λ y. is_some (nad c y.node)) xs) ≡ flat_map (if_link c f) xs
links-filtered c f [] = refl
links-filtered c f (x ∷ xs) = links-by c f x xs (is_some (nad c x.node)) refl (links-filtered c f xs)

each-link : {Y : Type 0} (c : Parts) (f : Link → List Y) (l x : Link) (xs : List Y) (a q : Bool) → is_some (nad c x.node) ≡ a → same_link x l ≡ q → is_some (nad c l.node) ≡ true
    → (is_some (nad c x.node) ≡ true → f x ≡ (if q then xs else [])) → (if a then f x else []) ≡ (if q then xs else [])
each-link c f l x xs true q e s own each = each e
each-link c f l x xs false true e s own each = absurd (let bad : true ≡ false = sym own ∙ ap (λ (y : Link). is_some (nad c y.node)) (sym (same-is x l s)) ∙ e in cc)
each-link c f l x xs false false e s own each = refl

pub only-link : {Y : Type 0} (c : Parts) (f : Link → List Y) (l : Link) (xs : List Y) → is_some (nad c l.node) ≡ true
    → ((x : Link) → is_some (nad c x.node) ≡ true → f x ≡ (if same_link x l then xs else [])) → flat_map f (all_links c) ≡ xs
only-link c f l xs own each =
    let below : l.node < nodes c = index-some c.nodes l.node own
    in let one : (x : Link) → if_link c f x ≡ (if same_link x l then xs else []) = λ x. each-link c f l x xs (is_some (nad c x.node)) (same_link x l) refl refl own (each x)
    in links-filtered c f (map (λ n. link_at n Down) (numbers (nodes c)) ++ map (λ n. link_at n Up) (numbers (nodes c)))
    ∙ flat-append (if_link c f) (map (λ n. link_at n Down) (numbers (nodes c))) (map (λ n. link_at n Up) (numbers (nodes c)))
    ∙ rw (dir-one c (if_link c f) l Down (nodes c) xs one below, dir-one c (if_link c f) l Up (nodes c) xs one below) (dirs-both l.dir xs)

flat-none : {X Y : Type 0} (f : X → List Y) (xs : List X) → ((x : X) → f x ≡ []) → flat_map f xs ≡ []
flat-none f [] each = refl
flat-none f (x ∷ xs) each = rw (each x) (flat-none f xs each)

flat-links : {Y : Type 0} (c : Parts) (f : Link → List Y) (xs : List Link) → ((x : Link) → is_some (nad c x.node) ≡ true → f x ≡ []) → flat_map f (filter (λ y. is_some (nad c y.node)) xs) ≡ []
flat-links c f xs each = links-filtered c f xs ∙ flat-none (if_link c f) xs (λ x. by-link x (is_some (nad c x.node)) refl)
  where
    by-link : (x : Link) (b : Bool) → is_some (nad c x.node) ≡ b → (if b then f x else []) ≡ []
    by-link x true e = each x e
    by-link x false e = refl

-- the messages that a link gained, by what its host's settled messages gained
pub gained-messages : (c : Parts) (past past' : List LogEntry) (l : Link) → is_some (nad c l.node) ≡ true → (k : Known c past) (k' : Known c past') (g : Grows (k.states (host_of l)) (k'.states (host_of l)))
    → drop (length (reading c past l)) (reading c past' l) ≡ sent_of (on_link c l g.more)
gained-messages c past past' l a k k' g =
    let i : IsLink c (host_of l) l = record { host = refl; address = a }
    in let s : HostState = k.states (host_of l)
    in let s' : HostState = k'.states (host_of l)
    in let old : reading c past l ≡ sent_of (on_link c l s.done) = track-reads (ear_on c l) (heard_on c past l) (signs c past l) (on_link c l s.done) (part c s.rest s.count l) ((k.hosts (host_of l)).links l i)
    in let new : reading c past' l ≡ sent_of (on_link c l s'.done) = track-reads (ear_on c l) (heard_on c past' l) (signs c past' l) (on_link c l s'.done) (part c s'.rest s'.count l) ((k'.hosts (host_of l)).links l i)
    in let more : List (List ℕ) = sent_of (on_link c l g.more)
    in let e : reading c past' l ≡ reading c past l ++ more
    = new ∙ ap (λ (ps : List (Message × Fate)). sent_of (on_link c l ps)) g.is ∙ ap sent_of (on-append c l s.done g.more) ∙ filter_map-append if_sent (on_link c l s.done) (on_link c l g.more)
    ∙ ap (λ (xs : List (List ℕ)). xs ++ more) (sym old)
    in ap (drop (length (reading c past l))) e ∙ drop_at (reading c past l) more (length (reading c past l)) refl

-- f at equal items
flat-same : {X Y : Type 0} (f g : X → List Y) (xs : List X) → ((x : X) → f x ≡ g x) → flat_map f xs ≡ flat_map g xs
flat-same f g [] each = refl
flat-same f g (x ∷ xs) each = rw (each x, flat-same f g xs each)

-- which slots are no sleep marks
pub other-awake : (s : Slot) → header_is 0x3C s.header ≡ false → is_sleep_slot s ≡ false
other-awake s h = rw h

pub empty-awake : (table entry : ℕ) (header : Option ℕ) (due left : List ℕ) (hurt : Bool) → is_sleep_slot (slot_of table entry header due [] left hurt) ≡ false
empty-awake table entry None due left hurt = refl
empty-awake table entry (Some h) due left hurt = rw (same-cond (h == 0x3C))

pub frame-awake : (table entry : ℕ) (due left : List ℕ) (hurt : Bool) (node : ℕ) (dir : Direction) (f : List ℕ) (n : ℕ) → 1 ≤ n → IsFrameOf n f
    → is_sleep_slot (frame_slot table entry due left hurt (record_of node dir) f) ≡ false
frame-awake table entry due left true node Down f n some i = refl
frame-awake table entry due left false node Down f n some i = rw (i.address, ne_eqb n 0 (λ z. omega arith))
frame-awake table entry due left true node Up f n some i = refl
frame-awake table entry due left false node Up f n some i = refl

-- a finish that settles nothing
pub finish-quiet : (c : Parts) (past : List LogEntry) (port : PortId) (s : Slot) → IsSound c → (k : Known c past) (k' : Known c (quiet_entry port Finish ∷ past))
    → ((x : ℕ) → (k'.states x).done ≡ (k.states x).done) → is_sleep_slot s ≡ false → open_slot past ≡ Some s → finish_events c port past ≡ SeenEvent (seen_of s) ∷ []
finish-quiet c past port s sound k k' same awake is =
    let e : LogEntry = quiet_entry port Finish
    in let g : (x : ℕ) → Grows (k.states x) (k'.states x) = λ x. record { more = []; is = same x ∙ sym (append-nil (k.states x).done) }
    in let heard : flat_map (new_messages c e past) (all_links c) ≡ []
    = flat-links c (new_messages c e past) (map (λ n. link_at n Down) (numbers (nodes c)) ++ map (λ n. link_at n Up) (numbers (nodes c)))
    (λ l a. ap (map (λ m. MessageEvent (host_of l) (receiver_of l.dir l.node) m)) (gained-messages c past (e ∷ past) l a k k' (g (host_of l))))
    in let told : all_reports c e past ≡ [] = flat-none (reports c e past) (numbers (nodes c)) (λ x. reports-are c e past x sound k k' (g x) refl)
    in let wakes : sleeps past ≡ false = rw is awake
    in rw (is, awake, heard, told) refl

-- the first number after others
ahead-length : (k : ℕ) (ps : List (Message × Fate)) → ahead k ps ≡ k + length ps
ahead-length k [] = omega arith
ahead-length k (p ∷ ps) = let e = ahead-length (suc k) ps in omega arith

one-more : (n : ℕ) → 1 + n ≡ suc n
one-more n = omega arith

pub next-number : (ps : List (Message × Fate)) → ahead 1 ps ≡ suc (length ps)
next-number ps = ahead-length 1 ps ∙ one-more (length ps)

-- what a message with this fate gives its receiver
abbrev pub sent_bytes : Fate → List ℕ → List (List ℕ)
sent_bytes Waiting m = []
sent_bytes Sent m = m ∷ []
sent_bytes (Lost cause) m = []

on-fate : (c : Parts) (l : Link) (m : Message) (f : Fate) (q : Bool) → on l m ≡ q → sent_of (on_link c l ((m, f) ∷ [])) ≡ (if q then sent_bytes f m.bytes else [])
on-fate c l m Waiting true q = rw q
on-fate c l m Waiting false q = rw q
on-fate c l m Sent true q = rw q
on-fate c l m Sent false q = rw q
on-fate c l m (Lost cause) true q = rw q
on-fate c l m (Lost cause) false q = rw q

on-one : (c : Parts) (l : Link) (m : Message) (f : Fate) (h : ℕ) (b q : Bool) → host_of m.link ≡ h → (h == host_of l) ≡ b → on l m ≡ q → sent_of (on_link c l (if b then (m, f) ∷ [] else [])) ≡ (if q then sent_bytes f m.bytes else [])
on-one c l m f h true q e p s = on-fate c l m f q s
on-one c l m f h false true e p s = absurd (let z : h ≡ host_of l = sym e ∙ over-host m.link l s in let t : (h == host_of l) ≡ true = grind (arith, nat_tests, z) in let bad : true ≡ false = sym t ∙ p in cc)
on-one c l m f h false false e p s = refl

told-one : (h x k : ℕ) (b : Bool) (m : Message) (f : Fate) → reports_from x k (if b then (m, f) ∷ [] else []) ≡ (if b then report x k f else [])
told-one h x k true m f = append-nil (report x k f)
told-one h x k false m f = refl

-- a message event for each of these, from a message's host to its receiver
abbrev pub events_of : ℕ → Link → List (List ℕ) → List Event
events_of h l ms = map (λ b. MessageEvent h (receiver_of l.dir l.node) b) ms

event-at : (l : Link) (m : Message) (ms : List (List ℕ)) (h : ℕ) (q r : Bool) → host_of m.link ≡ h → same_link m.link l ≡ q → same_link l m.link ≡ r
    → events_of (host_of l) l (if q then ms else []) ≡ (if r then events_of h m.link ms else [])
event-at l m ms h true true e p q = subst (λ (x : Link). events_of (host_of x) x ms ≡ events_of h m.link ms) (same-is m.link l p) (rw e refl)
event-at l m ms h true false e p q = absurd (let bad : true ≡ false = sym (same-self l) ∙ ap (same_link l) (sym (same-is m.link l p)) ∙ q in cc)
event-at l m ms h false true e p q = absurd (let bad : true ≡ false = sym (same-self m.link) ∙ ap (same_link m.link) (sym (same-is l m.link q)) ∙ p in cc)
event-at l m ms h false false e p q = refl

told-at : (h x : ℕ) (t : ℕ → ℕ) (n : ℕ) (f : Fate) → t h ≡ n → (b : Bool) → (h == x) ≡ b → (if b then report x (t x) f else []) ≡ (if b then report h n f else [])
told-at h x t n f e true p = let same : h ≡ x = grind (arith, nat_tests, p) in subst (λ (y : ℕ). report y (t y) f ≡ report h n f) same (rw e refl)
told-at h x t n f e false p = refl

-- what the receiver of a link reads more, once a message is whole or lost
pub link-gains : (c : Parts) (past : List LogEntry) (port : PortId) (h : ℕ) (m : Message) (f : Fate) → host_of m.link ≡ h → (k : Known c past) (k' : Known c (quiet_entry port Finish ∷ past))
    → ((x : ℕ) → (k'.states x).done ≡ (k.states x).done ++ (if h == x then (m, f) ∷ [] else [])) → (l : Link) → is_some (nad c l.node) ≡ true
    → drop (length (reading c past l)) (reading c (quiet_entry port Finish ∷ past) l) ≡ (if goes_over m.link l then sent_bytes f m.bytes else [])
link-gains c past port h m f host k k' more l a =
    let g : (x : ℕ) → Grows (k.states x) (k'.states x) = λ x. record { more = if h == x then (m, f) ∷ [] else []; is = more x }
    in gained-messages c past (quiet_entry port Finish ∷ past) l a k k' (g (host_of l))
    ∙ on-one c l m f h (h == host_of l) (goes_over m.link l) host refl refl

-- the events of the links, of one message
heard-one : (c : Parts) (past : List LogEntry) (e : LogEntry) (h : ℕ) (m : Message) (ms : List (List ℕ)) → host_of m.link ≡ h → is_to_all m.link ≡ false → is_some (nad c m.link.node) ≡ true
    → ((l : Link) → is_some (nad c l.node) ≡ true → drop (length (reading c past l)) (reading c (e ∷ past) l) ≡ (if goes_over m.link l then ms else []))
    → flat_map (new_messages c e past) (all_links c) ≡ events_of h m.link ms
heard-one c past e h m ms host one own gains =
    only-link c (new_messages c e past) m.link (events_of h m.link ms) own
    (λ l a. ap (events_of (host_of l) l) (gains l a ∙ ap (λ (q : Bool). if q then ms else []) (over-one m.link l one))
    ∙ event-at l m ms h (same_link m.link l) (same_link l m.link) host refl refl)

-- of one that is lost
pub heard-lost : (c : Parts) (past : List LogEntry) (e : LogEntry) (m : Message)
    → ((l : Link) → is_some (nad c l.node) ≡ true → drop (length (reading c past l)) (reading c (e ∷ past) l) ≡ (if goes_over m.link l then [] else []))
    → flat_map (new_messages c e past) (all_links c) ≡ []
heard-lost c past e m gains =
    flat-links c (new_messages c e past) (map (λ n. link_at n Down) (numbers (nodes c)) ++ map (λ n. link_at n Up) (numbers (nodes c)))
    (λ l a. ap (events_of (host_of l) l) (gains l a ∙ same-cond (goes_over m.link l) []))

-- of one to all responders
down-each : (c : Parts) (f : Link → List Event) (bytes : List ℕ) (ns : List ℕ) → ((n : ℕ) → is_some (nad c n) ≡ true → f (link_at n Down) ≡ MessageEvent 0 n bytes ∷ [])
    → flat_map (if_link c f) (map (λ n. link_at n Down) ns) ≡ flat_map (told_to c bytes) ns
down-each c f bytes [] each = refl
down-each c f bytes (n ∷ ns) each =
    ap (λ (es : List Event). if_link c f (link_at n Down) ++ es) (down-each c f bytes ns each)
    ∙ ap (λ (es : List Event). es ++ flat_map (told_to c bytes) ns) (by-test (is_some (nad c n)) refl)
  where
    by-test : (b : Bool) → is_some (nad c n) ≡ b → (if b then f (link_at n Down) else []) ≡ (if b then MessageEvent 0 n bytes ∷ [] else [])
    by-test true e = each n e
    by-test false e = refl

up-each : (c : Parts) (f : Link → List Event) (ns : List ℕ) → ((n : ℕ) → is_some (nad c n) ≡ true → f (link_at n Up) ≡ []) → flat_map (if_link c f) (map (λ n. link_at n Up) ns) ≡ []
up-each c f [] each = refl
up-each c f (n ∷ ns) each = by-test (is_some (nad c n)) refl (up-each c f ns each)
  where
    by-test : (b : Bool) → is_some (nad c n) ≡ b → flat_map (if_link c f) (map (λ x. link_at x Up) ns) ≡ [] → (if b then f (link_at n Up) else []) ++ flat_map (if_link c f) (map (λ x. link_at x Up) ns) ≡ []
    by-test true e later = rw (each n e) later
    by-test false e later = later

pub heard-all : (c : Parts) (past : List LogEntry) (e : LogEntry) (m : Message) → is_to_all m.link ≡ true
    → ((l : Link) → is_some (nad c l.node) ≡ true → drop (length (reading c past l)) (reading c (e ∷ past) l) ≡ (if goes_over m.link l then m.bytes ∷ [] else []))
    → flat_map (new_messages c e past) (all_links c) ≡ told_to_all c m.bytes (nodes c)
heard-all c past e m all gains =
    let over : (n : ℕ) (d : Direction) → goes_over m.link (link_at n d) ≡ is_down d = λ n d. ap (λ (x : Link). goes_over x (link_at n d)) (to-all-is m.link.node m.link.dir all) ∙ over-all n d
    in let down : (n : ℕ) → is_some (nad c n) ≡ true → new_messages c e past (link_at n Down) ≡ MessageEvent 0 n m.bytes ∷ []
    = λ n a. ap (events_of 0 (link_at n Down)) (gains (link_at n Down) a ∙ ap (λ (q : Bool). if q then m.bytes ∷ [] else []) (over n Down))
    in let up : (n : ℕ) → is_some (nad c n) ≡ true → new_messages c e past (link_at n Up) ≡ []
    = λ n a. ap (events_of n (link_at n Up)) (gains (link_at n Up) a ∙ ap (λ (q : Bool). if q then m.bytes ∷ [] else []) (over n Up))
    in links-filtered c (new_messages c e past) (map (λ n. link_at n Down) (numbers (nodes c)) ++ map (λ n. link_at n Up) (numbers (nodes c)))
    ∙ flat-append (if_link c (new_messages c e past)) (map (λ n. link_at n Down) (numbers (nodes c))) (map (λ n. link_at n Up) (numbers (nodes c)))
    ∙ rw (down-each c (new_messages c e past) m.bytes (numbers (nodes c)) down, up-each c (new_messages c e past) (numbers (nodes c)) up) (append-nil (told_to_all c m.bytes (nodes c)))

-- what is told of the links where one message is whole or lost
pub data ToldIs (c : Parts) (h : ℕ) (m : Message) : Fate → List Event → Type 0 where
  to_one : is_to_all m.link ≡ false → ToldIs c h m Sent (events_of h m.link (m.bytes ∷ []))
  to_all : is_to_all m.link ≡ true → ToldIs c h m Sent (told_to_all c m.bytes (nodes c))
  lost : (cause : Cause) → ToldIs c h m (Lost cause) []

told-links : (c : Parts) (past : List LogEntry) (e : LogEntry) (h : ℕ) (m : Message) (f : Fate) (es : List Event) → CanGo c h m → ToldIs c h m f es
    → ((l : Link) → is_some (nad c l.node) ≡ true → drop (length (reading c past l)) (reading c (e ∷ past) l) ≡ (if goes_over m.link l then sent_bytes f m.bytes else []))
    → flat_map (new_messages c e past) (all_links c) ≡ es
told-links c past e h m Waiting es go told gains = elim told [ ]
told-links c past e h m Sent _ go (to_one one) gains = heard-one c past e h m (m.bytes ∷ []) go.host one (go.one one).address gains
told-links c past e h m Sent _ go (to_all all) gains = heard-all c past e m all gains
told-links c past e h m (Lost _) _ go (lost cause) gains = heard-lost c past e m gains

-- a finish by which one message is whole or lost
pub finish-one : (c : Parts) (past : List LogEntry) (port : PortId) (s : Slot) (h : ℕ) (m : Message) (f : Fate) (es : List Event) → IsSound c → CanGo c h m → ToldIs c h m f es → (k : Known c past) (k' : Known c (quiet_entry port Finish ∷ past))
    → ((x : ℕ) → (k'.states x).done ≡ (k.states x).done ++ (if h == x then (m, f) ∷ [] else [])) → is_sleep_slot s ≡ false → open_slot past ≡ Some s
    → finish_events c port past ≡ SeenEvent (seen_of s) ∷ es ++ report h (suc (length (k.states h).done)) f
finish-one c past port s h m f es sound go told k k' more awake is =
    let e : LogEntry = quiet_entry port Finish
    in let g : (x : ℕ) → Grows (k.states x) (k'.states x) = λ x. record { more = if h == x then (m, f) ∷ [] else []; is = more x }
    in let heard : flat_map (new_messages c e past) (all_links c) ≡ es = told-links c past e h m f es go told (link-gains c past port h m f go.host k k' more)
    in let reported : all_reports c e past ≡ report h (suc (length (k.states h).done)) f
    = only-one (reports c e past) h (nodes c) (report h (suc (length (k.states h).done)) f)
    (λ x. reports-are c e past x sound k k' (g x) refl ∙ told-one h x (ahead 1 (k.states x).done) (h == x) m f ∙ told-at h x (λ (y : ℕ). ahead 1 (k.states y).done) (suc (length (k.states h).done)) f (next-number (k.states h).done) (h == x) refl)
    (host-below c h (home c m.link).node (home c m.link).dir go.home_is)
    in rw (is, awake, heard, reported) (ap (λ (xs : List Event). SeenEvent (seen_of s) ∷ xs ++ report h (suc (length (k.states h).done)) f) (append-nil es))

-- what a mark makes of a host's messages: the first one is lost, if it is begun and the mark is on its link
abbrev pub cut_if : Bool → Message → Cause → List (Message × Fate)
cut_if b m cause = if b then (m, Lost cause) ∷ [] else []

abbrev pub cut_of : (Link → Bool) → Cause → List Message → ℕ → List (Message × Fate)
cut_of t cause rest zero = []
cut_of t cause [] (suc j) = []
cut_of t cause (m ∷ ms) (suc j) = cut_if (t m.link) m cause

abbrev after_cut : Bool → Cause → List (Message × Fate) → Message → List Message → ℕ → HostState
after_cut b cause done m ms j = if b then record { done = done ++ (m, Lost cause) ∷ []; rest = ms; count = 0 } else record { done = done; rest = m ∷ ms; count = suc j }

cut-done : (b : Bool) (cause : Cause) (done : List (Message × Fate)) (m : Message) (ms : List Message) (j : ℕ) → (after_cut b cause done m ms j).done ≡ done ++ cut_if b m cause
cut-done true cause done m ms j = refl
cut-done false cause done m ms j = sym (append-nil done)

pub marked-done : (t : Link → Bool) (cause : Cause) (done : List (Message × Fate)) (rest : List Message) (k : ℕ) → (marked t cause done rest k).done ≡ done ++ cut_of t cause rest k
marked-done t cause done rest zero = sym (append-nil done)
marked-done t cause done [] (suc j) = sym (append-nil done)
marked-done t cause done (m ∷ ms) (suc j) = cut-done (t m.link) cause done m ms j

-- what its host is told
abbrev pub lost_by : (ℕ → HostState) → (Link → Bool) → Cause → ℕ → List Event
lost_by states t cause x = reports_from x (suc (length (states x).done)) (cut_of t cause (states x).rest (states x).count)

marked-told : (c : Parts) (past : List LogEntry) (e : LogEntry) (t : Link → Bool) (cause : Cause) (x : ℕ) → IsSound c → (k : Known c past) (k' : Known c (e ∷ past))
    → k'.states x ≡ marked t cause (k.states x).done (k.states x).rest (k.states x).count → accepted_from (e ∷ past) x ≡ accepted_from past x → reports c e past x ≡ lost_by k.states t cause x
marked-told c past e t cause x sound k k' same accepted =
    let more : List (Message × Fate) = cut_of t cause (k.states x).rest (k.states x).count
    in let g : Grows (k.states x) (k'.states x) = record { more = more; is = ap (λ (s : HostState). s.done) same ∙ marked-done t cause (k.states x).done (k.states x).rest (k.states x).count }
    in reports-are c e past x sound k k' g accepted ∙ ap (λ (n : ℕ). reports_from x n more) (next-number (k.states x).done)

cut-if : (c : Parts) (b : Bool) (l : Link) (m : Message) (cause : Cause) → sent_of (on_link c l (cut_if b m cause)) ≡ []
cut-if c true l m cause = on-fate c l m (Lost cause) (on l m) refl ∙ same-cond (on l m) []
cut-if c false l m cause = refl

cut-nothing : (c : Parts) (t : Link → Bool) (cause : Cause) (l : Link) (rest : List Message) (k : ℕ) → sent_of (on_link c l (cut_of t cause rest k)) ≡ []
cut-nothing c t cause l rest zero = refl
cut-nothing c t cause l [] (suc j) = refl
cut-nothing c t cause l (m ∷ ms) (suc j) = cut-if c (t m.link) l m cause

-- a finish that puts the cluster to sleep
pub finish-sleep : (c : Parts) (past : List LogEntry) (port : PortId) (s : Slot) → IsSound c → (k : Known c past) (k' : Known c (quiet_entry port Finish ∷ past))
    → ((x : ℕ) → k'.states x ≡ marked (λ l. true) Slept (k.states x).done (k.states x).rest (k.states x).count) → is_sleep_slot s ≡ true → open_slot past ≡ Some s
    → finish_events c port past ≡ SeenEvent (seen_of s) ∷ SleepEvent ∷ flat_map (lost_by k.states (λ l. true) Slept) (numbers (nodes c))
finish-sleep c past port s sound k k' same asleep is =
    let e : LogEntry = quiet_entry port Finish
    in let t : Link → Bool = λ l. true
    in let g : (x : ℕ) → Grows (k.states x) (k'.states x)
    = λ x. record { more = cut_of t Slept (k.states x).rest (k.states x).count; is = ap (λ (s : HostState). s.done) (same x) ∙ marked-done t Slept (k.states x).done (k.states x).rest (k.states x).count }
    in let heard : flat_map (new_messages c e past) (all_links c) ≡ []
    = flat-links c (new_messages c e past) (map (λ n. link_at n Down) (numbers (nodes c)) ++ map (λ n. link_at n Up) (numbers (nodes c)))
    (λ l a. ap (map (λ m. MessageEvent (host_of l) (receiver_of l.dir l.node) m)) (gained-messages c past (e ∷ past) l a k k' (g (host_of l)) ∙ cut-nothing c t Slept l (k.states (host_of l)).rest (k.states (host_of l)).count))
    in let told : all_reports c e past ≡ flat_map (lost_by k.states t Slept) (numbers (nodes c))
    = flat-same (reports c e past) (lost_by k.states t Slept) (numbers (nodes c)) (λ x. marked-told c past e t Slept x sound k k' (same x) refl)
    in rw (is, asleep, heard, told) refl

-- a timeout
pub timeout-told : (c : Parts) (past : List LogEntry) (port : PortId) (node : ℕ) (dir : Direction) → IsSound c → open_slot past ≡ None → (k : Known c past)
    → all_reports c (quiet_entry port (Timeout node dir)) past ≡ flat_map (lost_by k.states (λ l. same_link l (record_of node dir)) TimedOut) (numbers (nodes c))
timeout-told c past port node dir sound none k =
    let e : LogEntry = quiet_entry port (Timeout node dir)
    in let t : Link → Bool = λ l. same_link l (record_of node dir)
    in let k' : Known c (e ∷ past) = timeout-known c past port node dir [] none k
    in flat-same (reports c e past) (lost_by k.states t TimedOut) (numbers (nodes c)) (λ x. marked-told c past e t TimedOut x sound k k' refl refl)

-- of one message
lost-other : (c : Parts) (x h : ℕ) (t : Link → Bool) (cause : Cause) (rest : List Message) (k : ℕ) → AllCanGo c x rest → ((l : Link) → t l ≡ true → host_of l ≡ h) → x ≢ h → cut_of t cause rest k ≡ []
lost-other c x h t cause rest zero g own differ = refl
lost-other c x h t cause [] (suc j) g own differ = refl
lost-other c x h t cause (m ∷ ms) (suc j) g own differ = lost-test (t m.link) refl
  where
    lost-test : (b : Bool) → t m.link ≡ b → cut_if b m cause ≡ []
    lost-test true e = absurd (differ (sym g.0.host ∙ own m.link e))
    lost-test false e = refl

pub lost-one : (c : Parts) (past : List LogEntry) (k : Known c past) (t : Link → Bool) (cause : Cause) (h : ℕ) (m : Message) (ms : List Message) (j : ℕ)
    → (k.states h).rest ≡ m ∷ ms → (k.states h).count ≡ suc j → t m.link ≡ true → ((l : Link) → t l ≡ true → host_of l ≡ h) → IsLink c h m.link
    → flat_map (lost_by k.states t cause) (numbers (nodes c)) ≡ LostEvent h (suc (length (k.states h).done)) cause ∷ []
lost-one c past k t cause h m ms j first begun at own link =
    only-one (lost_by k.states t cause) h (nodes c) (LostEvent h (suc (length (k.states h).done)) cause ∷ [])
    (λ x. lost-at x (h == x) refl)
    (host-below c h m.link.node m.link.dir link)
  where
    lost-at : (x : ℕ) (b : Bool) → (h == x) ≡ b → lost_by k.states t cause x ≡ (if b then LostEvent h (suc (length (k.states h).done)) cause ∷ [] else [])
    lost-at x true e = let same : h ≡ x = grind (arith, nat_tests, e) in subst (λ (y : ℕ). lost_by k.states t cause y ≡ LostEvent h (suc (length (k.states h).done)) cause ∷ []) same (rw (first, begun, at))
    lost-at x false e = ap (reports_from x (suc (length (k.states x).done))) (lost-other c x h t cause (k.states x).rest (k.states x).count (k.hosts x).can_go own (λ z. let t : (h == x) ≡ true = grind (arith, nat_tests, z) in let bad : true ≡ false = sym t ∙ e in cc))
