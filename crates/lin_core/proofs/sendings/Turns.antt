-- What an answer puts, and what a finish and a timeout make of the messages that wait, by the open slot.
use Rattle.std.proofs.Common.{◌≡◌, ◌≢◌, ℕ, zero, suc, ◌≤◌, Bool, true, false, List, [], ◌∷◌, ◌++◌, map, refl, ap, sym, ◌∙◌, subst, arith}
use Rattle.std.specs.Prelude.{Option, Some, None, ◌==◌, ◌||◌, ◌&&◌, if◌then◌else◌, find, is_some, slice_index}
use Rattle.std.specs.Option.{option_map_or}
use Rattle.std.specs.List.{list_any}
use Rattle.std.proofs.lemmas.Bool.{ne_eqb}
use Rattle.std.proofs.lemmas.List.{append-nil}
use Rattle.lin_transport.specs.Transport.{frame}
use Rattle.lin_transport.proofs.Frames.{and-false}
use Rattle.lin_parts.specs.Cluster.{line_of}
use Rattle.lin_parts.specs.Sound.{IsSound}
use Rattle.lin_parts.specs.declared.parts.Parts.{Parts}
use Rattle.lin_core.specs.History.{Slot, good_bytes, is_sleep_asked, has_decided, header_is, is_in, is_sleep_slot, open_slot, seen_by}
use Rattle.lin_core.specs.Links.{Fate, Link, Message, Sending, Sign, accepted_from, begun_sending, blocks, heard_on, diagnostic_header, host_of, is_begun, link_address, same_link, sendings, sendings_from, signs, waiting}
use Rattle.lin_core.specs.Replies.{begun_on, in_slot, link_at, refusal}
use Rattle.lin_core.specs.Slots.{next_frame, put_bytes, sleep_frame, with_classic}
use Rattle.lin_core.specs.kept.Slots.{pdu_of}
use Rattle.lin_core.specs.declared.pdu.Pdu.TheVariants.{OfMessage, Nothing, Sleep}
use Rattle.lin_core.specs.declared.event.Event.{Event}
use Rattle.lin_core.specs.declared.link.Cause.TheVariants.{Slept}
use Rattle.lin_core.specs.declared.link.Direction.{Direction}
use Rattle.lin_core.specs.declared.link.Direction.TheVariants.{Down, Up}
use Rattle.lin_core.specs.declared.log.LogEntry.{LogEntry}
use Rattle.lin_core.specs.declared.port.PortId.{PortId}
use Rattle.lin_core.specs.declared.step.Step.TheVariants.{Answer}
use Rattle.lin_core.proofs.steps.FinishEvents.{empty-awake, frame-awake, other-awake}
use Rattle.lin_core.proofs.links.Finishes.{IsFrameOf, frame-is, frame_slot, same-cond, slot_of, some-address}
use Rattle.lin_core.proofs.sendings.Hosts.{CanGo, HostIs, HostState, Stands, begun-fresh, begun-none, first-begun, fresh-begun, message_of, next-begun, none-begun, ones-done, ones-fresh, sending_of, sendings-split, settled_ones, waiting-fresh, waiting-none}
use Rattle.lin_core.proofs.steps.Known.{Known, SlotIs, finish-known, has_rest, place-of, served-known}
use Rattle.lin_core.proofs.steps.Known.SlotIs.{carries, closed, master, other, served, slave, sleep}
use Rattle.lin_core.proofs.sendings.Moves.{advanced, is_last, marked, record_of}
use Rattle.lin_core.proofs.steps.Steps.{IsQuietNow, answer-allowed, any-of, blocks-closed, blocks-empty, first-go, stands}

-- the data bytes that come next of a host: those of what is begun, failing that of the sleep frame where sleep is asked, failing that of
-- what waits first
abbrev pub next_of : Parts → List Message → ℕ → Bool → List ℕ
next_of c [] k sleeping = if sleeping then sleep_frame else []
next_of c (m ∷ ms) zero sleeping = if sleeping then sleep_frame else frame (link_address c m.link) m.bytes 0
next_of c (m ∷ ms) (suc j) sleeping = frame (link_address c m.link) m.bytes (suc j)

pub next-of : (c : Parts) (past : List LogEntry) (h : ℕ) (done : List (Message × Fate)) (rest : List Message) (k : ℕ) (sleeping : Bool) → IsQuietNow c past
    → HostIs c h (accepted_from past h) (heard_on c past) (signs c past) (record { done = done; rest = rest; count = k }) → next_frame c past h sleeping ≡ next_of c rest k sleeping
next-of c past h done [] k sleeping q i =
    let st : Stands c h (blocks c past) (accepted_from past h) (record { done = done; rest = []; count = k }) = stands c past h (record { done = done; rest = []; count = k }) q i
    in let e : begun_sending c past h ≡ None = begun-none c h (blocks c past) (accepted_from past h) done k st
    in let w : waiting c past h ≡ [] = waiting-none c h (blocks c past) (accepted_from past h) done k st
    in rw (e, w)
next-of c past h done (m ∷ ms) zero sleeping q i =
    let st : Stands c h (blocks c past) (accepted_from past h) (record { done = done; rest = m ∷ ms; count = 0 }) = stands c past h (record { done = done; rest = m ∷ ms; count = 0 }) q i
    in let e : begun_sending c past h ≡ None = begun-fresh c h (blocks c past) (accepted_from past h) done m ms st
    in rw (e, waiting-fresh c h (blocks c past) (accepted_from past h) done m ms st)
next-of c past h done (m ∷ ms) (suc j) sleeping q i =
    next-begun c h (blocks c past) (accepted_from past h) done m ms j _ (stands c past h (record { done = done; rest = m ∷ ms; count = suc j }) q i)

-- whether a host's message is begun on a link
abbrev pub begun_at : List Message → ℕ → Link → Bool
begun_at rest zero l = false
begun_at [] (suc j) l = false
begun_at (m ∷ ms) (suc j) l = same_link m.link l

-- where none is found, neither the first passes the test nor another one
none-by : (p : Sending → Bool) (xs : List Sending) (x : Sending) (b : Bool) → p x ≡ b → find p (x ∷ xs) ≡ None → (p x ≡ false) × (find p xs ≡ None)
none-by p xs x true e none = absurd (let bad : Some x ≡ None = rw e at none in cc)
none-by p xs x false e none = (e, rw e at none)

none-both : (p : Sending → Bool) (xs : List Sending) (x : Sending) → find p (x ∷ xs) ≡ None → (p x ≡ false) × (find p xs ≡ None)
none-both p xs x none = none-by p xs x (p x) refl none

-- where only one of them passes a test, it is found where it passes another one too
find-no : (p t : Sending → Bool) (xs : List Sending) → find p xs ≡ None → find (λ s. t s && p s) xs ≡ None
find-no p t [] none = refl
find-no p t (x ∷ xs) none = let s = none-both p xs x none in rw (s.0, and-false (t x)) (find-no p t xs s.1)

find-first : (p t : Sending → Bool) (y : Sending) (ys : List Sending) (b : Bool) → t y ≡ b → p y ≡ true → find p ys ≡ None → is_some (find (λ s. t s && p s) (y ∷ ys)) ≡ b
find-first p t y ys true e own later = rw (e, own)
find-first p t y ys false e own later = rw (e, find-no p t ys later)

find-one : (p t : Sending → Bool) (xs : List Sending) (y : Sending) (ys : List Sending) → find p xs ≡ None → p y ≡ true → find p ys ≡ None
    → is_some (find (λ s. t s && p s) (xs ++ y ∷ ys)) ≡ t y
find-one p t [] y ys none own later = find-first p t y ys (t y) refl own later
find-one p t (x ∷ xs) y ys none own later = let s = none-both p xs x none in rw (s.0, and-false (t x)) (find-one p t xs y ys s.1 own later)

begun-by : (c : Parts) (past : List LogEntry) (n : ℕ) (d : Direction) (done : List (Message × Fate)) (rest : List Message) (k : ℕ) → IsQuietNow c past
    → HostIs c (host_of (link_at n d)) (accepted_from past (host_of (link_at n d))) (heard_on c past) (signs c past) (record { done = done; rest = rest; count = k })
    → is_some (begun_on c past n d) ≡ begun_at rest k (link_at n d)
begun-by c past n d done [] zero q i =
    let h : ℕ = host_of (link_at n d)
    in let e : begun_sending c past h ≡ None = begun-none c h (blocks c past) (accepted_from past h) done 0 (stands c past h (record { done = done; rest = []; count = 0 }) q i)
    in rw (find-no (is_begun c) (λ s. same_link s.message.link (link_at n d)) (sendings c past h) e)
begun-by c past n d done [] (suc j) q i = absurd i.counts
begun-by c past n d done (m ∷ ms) zero q i =
    let h : ℕ = host_of (link_at n d)
    in let e : begun_sending c past h ≡ None = begun-fresh c h (blocks c past) (accepted_from past h) done m ms (stands c past h (record { done = done; rest = m ∷ ms; count = 0 }) q i)
    in rw (find-no (is_begun c) (λ s. same_link s.message.link (link_at n d)) (sendings c past h) e)
begun-by c past n d done (m ∷ ms) (suc j) q i =
    let h : ℕ = host_of (link_at n d)
    in let bs : Link → List (List Sign) = blocks c past
    in let st : Stands c h bs (accepted_from past h) (record { done = done; rest = m ∷ ms; count = suc j }) = stands c past h (record { done = done; rest = m ∷ ms; count = suc j }) q i
    in let older : find (is_begun c) (settled_ones c bs done) ≡ None
    = rw (append-nil (settled_ones c bs done)) at (none-begun c h (settled_ones c bs done) [] (ones-done c h bs (accepted_from past h) (record { done = done; rest = m ∷ ms; count = suc j }) st))
    in let later : List Sending = sendings_from c bs (map message_of done ++ m ∷ []) ms
    in let newer : find (is_begun c) later ≡ None = fresh-begun c later (ones-fresh c h bs (accepted_from past h) done m ms (suc j) st)
    in rw (sendings-split c h bs (accepted_from past h) done m ms (suc j) st)
    (find-one (is_begun c) (λ s. same_link s.message.link (link_at n d)) (settled_ones c bs done) (sending_of c (map message_of done) m (suc j)) later older (first-begun c h bs (accepted_from past h) done m ms j st) newer)

-- what a timeout finds
pub begun-is : (c : Parts) (past : List LogEntry) (n : ℕ) (d : Direction) → open_slot past ≡ None → (k : Known c past)
    → is_some (begun_on c past n d) ≡ begun_at (k.states (host_of (link_at n d))).rest (k.states (host_of (link_at n d))).count (link_at n d)
begun-is c past n d none k =
    let s : HostState = k.states (host_of (link_at n d))
    in begun-by c past n d s.done s.rest s.count (record { blocks = λ l. blocks-closed c past l none }) (k.hosts (host_of (link_at n d)))

-- what an answer that is done finds, and what it puts
pub data AnswerIs (c : Parts) (past : List LogEntry) (states : ℕ → HostState) (node : ℕ) : Slot → Type 0 where
  serves : (s : Slot) → s.service ≡ true → AnswerIs c past states node s
  signals : (s : Slot) → header_is 0x3C s.header ≡ false → header_is 0x7D s.header ≡ false → AnswerIs c past states node s
  request : (s : Slot) → s.header ≡ Some 0x3C → s.puts ≡ [] → node ≡ 0 → (has_rest (states 0).rest || is_sleep_asked past) ≡ true
      → put_bytes c past (line_of c s.table s.entry).entry 0x3C node ≡ with_classic (next_of c (states 0).rest (states 0).count (is_sleep_asked past)) → AnswerIs c past states node s
  response : (s : Slot) → s.header ≡ Some 0x7D → s.puts ≡ [] → node ≢ 0 → has_rest (states node).rest ≡ true
      → put_bytes c past (line_of c s.table s.entry).entry 0x7D node ≡ with_classic (next_of c (states node).rest (states node).count false) → AnswerIs c past states node s

answer-by : (c : Parts) (past : List LogEntry) (node : ℕ) → (k : Known c past) → (o : Option Slot) → open_slot past ≡ o → SlotIs c (is_sleep_asked past) k.states o
    → in_slot past (λ s. is_in s.due node) ≡ true → in_slot past (λ s. has_decided s node) ≡ false → (s : Slot) → o ≡ Some s → AnswerIs c past k.states node s
answer-by c past node k None is closed d decided s e = cc
answer-by c past node k (Some _) is (served t serving) d decided s e = subst (AnswerIs c past k.states node) (let same : t ≡ s = cc in same) (serves t serving)
answer-by c past node k (Some _) is (other t p q) d decided s e = subst (AnswerIs c past k.states node) (let same : t ≡ s = cc in same) (signals t p q)
answer-by c past node k (Some _) is (master table entry due left hurt line only w) d decided s e =
    let t : Slot = slot_of table entry (Some 0x3C) due [] left hurt
    in let z : node ≡ 0 = only node (rw is at d)
    in let quiet : IsQuietNow c past = record { blocks = λ l. blocks-empty c past l table entry (Some 0x3C) due left hurt is }
    in let bytes : put_bytes c past (line_of c table entry).entry 0x3C node ≡ with_classic (next_of c (k.states 0).rest (k.states 0).count (is_sleep_asked past))
    = rw line (ap with_classic (next-of c past 0 (k.states 0).done (k.states 0).rest (k.states 0).count (is_sleep_asked past) quiet (k.hosts 0)))
    in subst (AnswerIs c past k.states node) (let same : t ≡ s = cc in same) (request t refl refl z w bytes)
answer-by c past node k (Some _) is (slave table entry due left hurt h line only w) d decided s e =
    let t : Slot = slot_of table entry (Some 0x7D) due [] left hurt
    in let yes : is_in due node ≡ true = rw is at d
    in let z : node ≡ h = only node yes
    in let own = w (rw z at yes)
    in let some : node ≢ 0 = subst (λ (n : ℕ). n ≢ 0) (sym z) own.0
    in let left_some : has_rest (k.states node).rest ≡ true = subst (λ (n : ℕ). has_rest (k.states n).rest ≡ true) (sym z) own.1
    in let quiet : IsQuietNow c past = record { blocks = λ l. blocks-empty c past l table entry (Some 0x7D) due left hurt is }
    in let bytes : put_bytes c past (line_of c table entry).entry 0x7D node ≡ with_classic (next_of c (k.states node).rest (k.states node).count false)
    = rw line (ap with_classic (next-of c past node (k.states node).done (k.states node).rest (k.states node).count false quiet (k.hosts node)))
    in subst (AnswerIs c past k.states node) (let same : t ≡ s = cc in same) (response t refl refl some left_some bytes)
answer-by c past node k (Some _) is (sleep table entry due left hurt only) d decided s e =
    let z : node ≡ 0 = only node (rw is at d)
    in let no : (list_any (λ (p : ℕ × List ℕ). p.0 == node) ((0, with_classic sleep_frame) ∷ []) || is_in left node) ≡ false = rw is at decided
    in absurd (let yes = any-of left 0 node (with_classic sleep_frame) z in let bad : true ≡ false = sym yes ∙ no in cc)
answer-by c past node k (Some _) is (carries table entry due left hurt h m ms j only host r n) d decided s e =
    let f : List ℕ = frame (link_address c m.link) m.bytes j
    in let z : node ≡ host_of m.link = only node (rw is at d) ∙ sym host
    in let no : (list_any (λ (p : ℕ × List ℕ). p.0 == node) ((host_of m.link, with_classic f) ∷ []) || is_in left node) ≡ false = rw is at decided
    in absurd (let yes = any-of left (host_of m.link) node (with_classic f) z in let bad : true ≡ false = sym yes ∙ no in cc)

pub answer-is : (c : Parts) (capacity : ℕ) (past : List LogEntry) (port : PortId) (node : ℕ) → (k : Known c past)
    → refusal c capacity past port (Answer node) ≡ None → (s : Slot) → open_slot past ≡ Some s → AnswerIs c past k.states node s
answer-is c capacity past port node k h s is =
    let a = answer-allowed c capacity past port node h
    in answer-by c past node k (open_slot past) refl k.slot a.0 a.1 s is

pub pdu-frame : (table entry : ℕ) (due left : List ℕ) (hurt : Bool) (node : ℕ) (dir : Direction) (f : List ℕ) (n : ℕ) → 1 ≤ n → IsFrameOf n f
    → pdu_of (frame_slot table entry due left hurt (record_of node dir) f) ≡ OfMessage (host_of (record_of node dir))
pdu-frame table entry due left hurt node Down f n some i = rw (i.address, ne_eqb n 0 (λ z. omega arith))
pdu-frame table entry due left hurt node Up f n some i = refl

-- what a finish makes of the hosts
pub data FinishIs (c : Parts) (states states' : ℕ → HostState) : Option Slot → Type 0 where
  shut : ((x : ℕ) → states' x ≡ states x) → FinishIs c states states' None
  still : (s : Slot) → pdu_of s ≡ Nothing → is_sleep_slot s ≡ false → ((x : ℕ) → states' x ≡ states x) → FinishIs c states states' (Some s)
  awake : (s : Slot) → pdu_of s ≡ Sleep → s.hurt ≡ true → is_sleep_slot s ≡ false → ((x : ℕ) → states' x ≡ states x) → FinishIs c states states' (Some s)
  asleep : (s : Slot) → pdu_of s ≡ Sleep → s.hurt ≡ false → is_sleep_slot s ≡ true
      → ((x : ℕ) → states' x ≡ marked (λ l. true) Slept (states x).done (states x).rest (states x).count) → FinishIs c states states' (Some s)
  carried : (s : Slot) (h : ℕ) (m : Message) (ms : List Message) (k : ℕ) → pdu_of s ≡ OfMessage h → is_sleep_slot s ≡ false → s.header ≡ Some (diagnostic_header m.link.dir)
      → s.puts ≡ (h, with_classic (frame (link_address c m.link) m.bytes k)) ∷ [] → (states h).rest ≡ m ∷ ms → (states h).count ≡ k → CanGo c h m
      → ((x : ℕ) → states' x ≡ (if h == x then advanced s.hurt (is_last m.bytes k) (states h).done m ms k else states x)) → FinishIs c states states' (Some s)

pub other-pdu : (s : Slot) → header_is 0x3C s.header ≡ false → header_is 0x7D s.header ≡ false → pdu_of s ≡ Nothing
other-pdu s p q = rw (p, q, same-cond s.service)

-- a slot for a service
pub served-pdu : (s : Slot) (b : Bool) → s.service ≡ true → is_sleep_slot s ≡ b → pdu_of s ≡ (if b then Sleep else Nothing)
served-pdu s true e h = rw (e, h)
served-pdu s false e h = rw (e, h)

sleep-unhurt : (header : Option ℕ) (puts : List (ℕ × List ℕ)) (hurt b : Bool) → option_map_or (λ bytes. slice_index bytes 0 == 0) (if b then good_bytes (seen_by header puts hurt) else None) false ≡ true → hurt ≡ false
sleep-unhurt header puts false b e = refl
sleep-unhurt header puts true false e = cc
sleep-unhurt None puts true true e = cc
sleep-unhurt (Some h) [] true true e = cc
sleep-unhurt (Some h) (p ∷ []) true true e = cc
sleep-unhurt (Some h) (p ∷ q ∷ ps) true true e = cc

pub asleep-unhurt : (s : Slot) → is_sleep_slot s ≡ true → s.hurt ≡ false
asleep-unhurt s e = sleep-unhurt s.header s.puts s.hurt (header_is 0x3C s.header) e

served-finish : (c : Parts) (past : List LogEntry) (port : PortId) (es : List Event) (s : Slot) (b : Bool) (is : open_slot past ≡ Some s) (e : s.service ≡ true) (h : is_sleep_slot s ≡ b) (k : Known c past)
    → FinishIs c k.states (served-known c past port es s b is e h k).states (Some s)
served-finish c past port es s true is e h k = asleep s (served-pdu s true e h) (asleep-unhurt s h) h (λ x. refl)
served-finish c past port es s false is e h k = still s (served-pdu s false e h) h (λ x. refl)

pub finish-is : (c : Parts) (past : List LogEntry) (port : PortId) (es : List Event) (sound : IsSound c) (k : Known c past) → (o : Option Slot) (is : open_slot past ≡ o) (shape : SlotIs c (is_sleep_asked past) k.states o)
    → FinishIs c k.states ((finish-known c past port es sound k o is shape).states) o
finish-is c past port es sound k None is closed = shut (λ x. refl)
finish-is c past port es sound k (Some _) is (served s e) = served-finish c past port es s (is_sleep_slot s) is e refl k
finish-is c past port es sound k (Some _) is (other s p q) = still s (other-pdu s p q) (other-awake s p) (λ x. refl)
finish-is c past port es sound k (Some _) is (master table entry due left hurt line only w) = still _ refl (empty-awake table entry (Some 0x3C) due left hurt) (λ x. refl)
finish-is c past port es sound k (Some _) is (slave table entry due left hurt h line only w) = still _ refl (empty-awake table entry (Some 0x7D) due left hurt) (λ x. refl)
finish-is c past port es sound k (Some _) is (sleep table entry due left true only) = awake _ refl refl refl (λ x. refl)
finish-is c past port es sound k (Some _) is (sleep table entry due left false only) = asleep _ refl refl refl (λ x. refl)
finish-is c past port es sound k (Some _) is (carries table entry due left hurt h m ms j only host r n) =
    let f : List ℕ = frame (link_address c m.link) m.bytes j
    in let s : Slot = frame_slot table entry due left hurt m.link f
    in let go : CanGo c h m = first-go c h (accepted_from past h) (heard_on c past) (signs c past) (k.states h) m ms r (k.hosts h)
    in let some : 1 ≤ link_address c m.link = some-address c m.link sound (place-of c h m go)
    in let frame_of_it : IsFrameOf (link_address c m.link) f = frame-is (link_address c m.link) m.bytes j
    in carried s h m ms j (pdu-frame table entry due left hurt m.link.node m.link.dir f (link_address c m.link) some frame_of_it ∙ ap OfMessage host)
    (frame-awake table entry due left hurt m.link.node m.link.dir f (link_address c m.link) some frame_of_it) refl (ap (λ (x : ℕ). (x, with_classic f) ∷ []) host) r n go (λ x. refl)
