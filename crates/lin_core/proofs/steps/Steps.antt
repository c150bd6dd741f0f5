-- The steps that need their refusals: a timeout, a send, an open, an answer; and the whole history.
use Rattle.lin_parts.specs.Cluster.{sporadic_of, nad, nodes, line_of, frame_of, event_of}
use Rattle.std.proofs.Common.{◌≡◌, ◌≤◌, ◌≢◌, ℕ, zero, suc, Bool, true, false, List, [], ◌∷◌, ◌++◌, length, map, refl, ap, sym, ◌∙◌, subst, arith, inl, inr, append_assoc}
use Rattle.std.specs.Prelude.{⊤, Option, Some, None, cond, ◌&&◌, ◌||◌, not, ◌==◌, if◌then◌else◌, is_some, option_map, filter, find, nat_lt, nat_le, slice_index}
use Rattle.std.specs.List.{list_any, cons_option}
use Rattle.std.proofs.lemmas.Bool.Decides.{eqb_tells, nat_tests}
use Rattle.std.proofs.lemmas.Bool.{ne_eqb}
use Rattle.std.proofs.lemmas.List.{append-nil}
use Rattle.std.specs.Option.{option_map_or, unwrap_or}
use Rattle.lin_frame.specs.Words.{numbers}
use Rattle.lin_transport.specs.Law.{IsFor}
use Rattle.lin_transport.specs.Transport.{frame, frame_count, functional, Heard, CanSend}
use Rattle.lin_transport.specs.Transport.Heard.{Reset}
use Rattle.lin_parts.specs.declared.parts.Parts.{Parts}
use Rattle.lin_core.specs.History.{finished_slot, is_sleep_mark, Slot, open_slot, slot_after_events, header_is, is_sleep_asked, good_under, is_in, has_decided}
use Rattle.lin_core.specs.Signals.{is_pending}
use Rattle.lin_core.specs.Links.{Link, same_link, link_of, Message, host_of, accepted_from, Sign, Fate, link_address, ear_on, goes_over, home, is_down, is_to_all, nad_on, put_on, signs, heard_on, blocks, blocks_of, waiting, begun_sending}
use Rattle.lin_core.specs.Links.Sign.{Mark}
use Rattle.lin_core.specs.Slots.{with_classic, sleep_frame, next_frame, first_frame, put_by, header, is_due, due_nodes, is_service, plain_nodes, served_nodes, selected_node, addressee, node_with, next_due}
use Rattle.lin_core.specs.Replies.{refusal, refusals, in_slot, has_route, has_responder_address, most_message_bytes, put_event, opening_events, service_events, done_events, reply}
use Rattle.lin_core.specs.kept.Slots.{opening_slot}
use Rattle.lin_parts.specs.Sound.{IsSound, IsSignalPid}
use Rattle.lin_core.specs.declared.log.LogEntry.{LogEntry}
use Rattle.lin_core.specs.declared.port.PortId.{PortId}
use Rattle.lin_core.specs.declared.step.Step.{Step}
use Rattle.lin_core.specs.declared.step.Step.TheVariants.{Send, Write, Open, Answer, Leave, Hurt, Finish, Timeout, Switch, AskSleep, Wake, Close}
use Rattle.lin_core.specs.declared.event.Event.{Event}
use Rattle.lin_core.specs.declared.event.Event.TheVariants.{Due, Put as PutEvent}
use Rattle.lin_parts.specs.declared.parts.Entry.{Entry}
use Rattle.lin_parts.specs.declared.parts.Entry.TheVariants.{Frame as FrameEntry, Sporadic, Event as EventEntry, MasterReq, SlaveResp, Fixed, Quiet}
use Rattle.lin_core.specs.declared.reply.Reply.TheVariants.{Done, Refused}
use Rattle.lin_core.specs.declared.reply.Refusal.{Refusal}
use Rattle.lin_core.specs.declared.link.Cause.TheVariants.{TimedOut}
use Rattle.lin_core.specs.declared.link.Direction.{Direction}
use Rattle.lin_core.specs.declared.link.Direction.TheVariants.{Down, Up}
use Rattle.lin_transport.proofs.Frames.{and-false}
use Rattle.lin_core.proofs.sendings.Hosts.{HostState, HostIs, IsLink, IsCount, CanGo, AllCanGo, eqb-self, part, message_of, Stands, host-stands, next-begun, begun-none, begun-fresh, waiting-none, waiting-fresh}
use Rattle.lin_core.proofs.sendings.Moves.{record_of, over-all, over-is, over-self, Marks, marked, host-mark}
use Rattle.lin_core.proofs.links.Fates.{or-true}
use Rattle.lin_core.proofs.links.Finishes.{HasNad, nad-is, one-by, slot_of, frame_slot, same-cond}
use Rattle.lin_core.specs.Runs.{history}
use Rattle.lin_core.proofs.steps.Known.{or-right, has-nad, has_rest, OnlyDue, SlotIs, Known, entry_is, refused-known, write-known, switch-known, wake-known, close-known, ask-known, leave-known, hurt-known, finish-known}
use Rattle.lin_core.proofs.steps.Known.SlotIs.{closed, served, other, master, slave, sleep, carries}

-- a timeout
pub marks-by : (b : Bool) (heard : List Heard) (signs : List Sign)
    → Marks b TimedOut heard (((if is_some (if b then Some (Mark TimedOut) else None) then Reset ∷ [] else []) ++ []) ++ heard) signs (cons_option (if b then Some (Mark TimedOut) else None) [] ++ signs)
marks-by true heard signs = record { heard_is = refl; signs_is = refl }
marks-by false heard signs = record { heard_is = refl; signs_is = refl }

abbrev pub timeout-known : (c : Parts) (past : List LogEntry) (port : PortId) (node : ℕ) (dir : Direction) (es : List Event) → open_slot past ≡ None → Known c past → Known c (entry_is port (Timeout node dir) es ∷ past)
timeout-known c past port node dir es is k =
    let e : LogEntry = entry_is port (Timeout node dir) es
    in record {
      states = λ h. marked (λ l. same_link l (record_of node dir)) TimedOut (k.states h).done (k.states h).rest (k.states h).count;
      hosts = λ h. host-mark c h (accepted_from past h) (heard_on c past) (heard_on c (e ∷ past)) (signs c past) (signs c (e ∷ past)) (k.states h).done (k.states h).rest (k.states h).count (λ l. same_link l (record_of node dir)) TimedOut (k.hosts h)
          (λ l i. marks-by (same_link l (record_of node dir)) (heard_on c past l) (signs c past l));
      slot = rw is closed;
    }

-- every condition is false
abbrev pub AllFalse : List (Refusal × Bool) → Type 0
AllFalse [] = ⊤
AllFalse (r ∷ rs) = (r.1 ≡ false) × AllFalse rs

pub none-of : (rs : List (Refusal × Bool)) → option_map (λ (r : Refusal × Bool). r.0) (find (λ (r : Refusal × Bool). r.1) rs) ≡ None → AllFalse rs
none-of [] h = tt
none-of ((r, true) ∷ rs) h = cc
none-of ((r, false) ∷ rs) h = (refl, none-of rs h)

pub both-false : (a b : Bool) → (a || b) ≡ false → (a ≡ false) × (b ≡ false)
both-false true b h = cc
both-false false b h = (refl, h)

pub not-false : (a : Bool) → not a ≡ false → a ≡ true
not-false true h = refl
not-false false h = cc

pub is_open-false : (o : Option Slot) → is_some o ≡ false → o ≡ None
is_open-false None h = refl
is_open-false (Some s) h = cc

-- a send
abbrev pub more_if : Bool → Message → HostState → HostState
more_if b m s = if b then record { done = s.done; rest = s.rest ++ m ∷ []; count = s.count } else s

pub part-more : (c : Parts) (rest : List Message) (m : Message) (k : ℕ) (l : Link) → IsCount rest k → part c (rest ++ m ∷ []) k l ≡ part c rest k l
part-more c rest m zero l i = refl
part-more c [] m (suc j) l i = absurd i
part-more c (x ∷ xs) m (suc j) l i = refl

pub counts-more : (rest : List Message) (m : Message) (k : ℕ) → IsCount rest k → IsCount (rest ++ m ∷ []) k
counts-more rest m zero i = tt
counts-more [] m (suc j) i = absurd i
counts-more (x ∷ xs) m (suc j) i = i

-- the receiver of a message's link is meant by its frames
meant-own : (c : Parts) (to : Link) (bytes : List ℕ) → IsSound c → HasNad c to.node → is_to_all to ≡ false → CanSend bytes → IsFor (ear_on c to) (record { nad = link_address c to; bytes = bytes })
meant-own c to bytes sound at one can = record {
  heard = rw (one, eqb-self (nad_on c to)) (or-true (is_down to.dir && nad_on c to == functional));
  can = can;
  short = λ all z.
      let same : nad_on c to ≡ functional = rw one at z
      in let bad : at.n ≡ 126 = sym (nad-is c to at.n at.is) ∙ same
      in let most : at.n ≤ 125 = sound.most to.node at.n at.is
      in absurd (omega arith);
}

meant-by : (c : Parts) (to l : Link) (bytes : List ℕ) → IsSound c → HasNad c to.node → is_to_all to ≡ false → CanSend bytes → goes_over to l ≡ true → IsFor (ear_on c l) (record { nad = link_address c to; bytes = bytes })
meant-by c to l bytes sound at one can over =
    subst (λ (x : Link). IsFor (ear_on c x) (record { nad = link_address c to; bytes = bytes })) (over-is to l one over) (meant-own c to bytes sound at one can)

pub home-own : (c : Parts) (to : Link) → is_to_all to ≡ false → home c to ≡ to
home-own c to one = rw one

pub can-go : (c : Parts) (h : ℕ) (m : Message) → IsSound c → IsLink c h m.link → CanSend m.bytes → CanGo c h m
can-go c h m sound link can =
    let one : is_to_all m.link ≡ false = one-by c m.link.node m.link.dir sound link.address
    in record {
      host = link.host;
      home_is = subst (IsLink c h) (sym (home-own c m.link one)) link;
      over = subst (λ (x : Link). goes_over m.link x ≡ true) (sym (home-own c m.link one)) (over-self m.link);
      can = can;
      meant = λ l i over. meant-by c m.link l m.bytes sound (has-nad c m.link.node link.address) one can over;
      several = λ more. one;
      one = λ e. link;
    }

-- a message to all
any-found : (p : ℕ → Bool) (xs : List ℕ) → list_any p xs ≡ true → p (unwrap_or (find p xs) 0) ≡ true
any-found p [] e = cc
any-found p (x ∷ xs) e = by-test (p x) refl (any-found p xs)
  where
    by-test : (b : Bool) → p x ≡ b → (list_any p xs ≡ true → p (unwrap_or (find p xs) 0) ≡ true) → p (unwrap_or (find p (x ∷ xs)) 0) ≡ true
    by-test true is later = let found : find p (x ∷ xs) ≡ Some x = rw is refl in subst (λ (o : Option ℕ). p (unwrap_or o 0) ≡ true) (sym found) is
    by-test false is later =
        let found : find p (x ∷ xs) ≡ find p xs = rw is refl
        in let some : list_any p xs ≡ true = rw is at e
        in subst (λ (o : Option ℕ). p (unwrap_or o 0) ≡ true) (sym found) (later some)

all-meant : (c : Parts) (b : ℕ) (e : Direction) (bytes : List ℕ) → CanSend bytes → length bytes ≤ 6 → goes_over (record_of functional Down) (record_of b e) ≡ true
    → IsFor (ear_on c (record_of b e)) (record { nad = functional; bytes = bytes })
all-meant c b Down bytes can few over = record { heard = refl; can = can; short = λ all z. few }
all-meant c b Up bytes can few over = absurd (let bad : false ≡ true = sym (over-all b Up) ∙ over in cc)

one-frame : (bytes : List ℕ) → length bytes ≤ 6 → frame_count (length bytes) ≡ 1
one-frame bytes few = grind (arith, nat_tests)

pub can-go-all : (c : Parts) (bytes : List ℕ) → has_responder_address c ≡ true → CanSend bytes → length bytes ≤ 6 → CanGo c 0 (record { link = record_of functional Down; bytes = bytes })
can-go-all c bytes some can few = record {
  host = refl;
  home_is = record { host = refl; address = any-found (λ n. is_some (nad c n)) (numbers (nodes c)) some };
  over = refl;
  can = can;
  meant = λ l i over. all-meant c l.node l.dir bytes can few over;
  several = λ more. absurd (let one = one-frame bytes few in omega arith);
  one = λ e. cc;
}

pub go-more : (c : Parts) (h : ℕ) (ms : List Message) (m : Message) → AllCanGo c h ms → CanGo c h m → AllCanGo c h (ms ++ m ∷ [])
go-more c h [] m g i = (i, tt)
go-more c h (x ∷ xs) m g i = (g.0, go-more c h xs m g.1 i)

pub host-send : (c : Parts) (h : ℕ) (accepted : List Message) (heard : Link → List Heard) (signs : Link → List Sign) (s : HostState) (m : Message)
    → CanGo c h m → HostIs c h accepted heard signs s → HostIs c h (accepted ++ m ∷ []) heard signs (record { done = s.done; rest = s.rest ++ m ∷ []; count = s.count })
host-send c h accepted heard signs s m g i = record {
  accepted_is = ap (λ (x : List Message). x ++ m ∷ []) i.accepted_is ∙ append_assoc (map message_of s.done) s.rest (m ∷ []);
  are_done = i.are_done;
  can_go = go-more c h s.rest m i.can_go g;
  counts = counts-more s.rest m s.count i.counts;
  links = λ l a. rw (part-more c s.rest m s.count l i.counts) (i.links l a);
}

pub host-send-if : (c : Parts) (x : ℕ) (b : Bool) (accepted : List Message) (heard : Link → List Heard) (signs : Link → List Sign) (s : HostState) (m : Message)
    → (b ≡ true → CanGo c x m) → HostIs c x accepted heard signs s → HostIs c x (option_map_or (λ y. accepted ++ y ∷ []) (if b then Some m else None) accepted) heard signs (more_if b m s)
host-send-if c x true accepted heard signs s m g i = host-send c x accepted heard signs s m (g refl) i
host-send-if c x false accepted heard signs s m g i = i

pub has-append : (ms : List Message) (m : Message) → has_rest (ms ++ m ∷ []) ≡ true
has-append [] m = refl
has-append (x ∷ xs) m = refl

pub has-more : (b : Bool) (m : Message) (s : HostState) → has_rest s.rest ≡ true → has_rest (more_if b m s).rest ≡ true
has-more true m s h = has-append s.rest m
has-more false m s h = h

pub rest-more : (b : Bool) (m : Message) (s : HostState) (x : Message) (xs : List Message) → s.rest ≡ x ∷ xs → (more_if b m s).rest ≡ x ∷ (if b then xs ++ m ∷ [] else xs)
rest-more true m s x xs e = ap (λ (r : List Message). r ++ m ∷ []) e
rest-more false m s x xs e = e

pub count-more : (b : Bool) (m : Message) (s : HostState) → (more_if b m s).count ≡ s.count
count-more true m s = refl
count-more false m s = refl

pub or-more : (b : Bool) (m : Message) (s : HostState) (a : Bool) → (has_rest s.rest || a) ≡ true → (has_rest (more_if b m s).rest || a) ≡ true
or-more true m s a h = rw (has-append s.rest m)
or-more false m s a h = h

pub slot-more : (c : Parts) (a : Bool) (states : ℕ → HostState) (from : ℕ) (m : Message) (o : Option Slot) → SlotIs c a states o → SlotIs c a (λ x. more_if (from == x) m (states x)) o
slot-more c a states from m None closed = closed
slot-more c a states from m (Some _) (served s e) = served s e
slot-more c a states from m (Some _) (other s p q) = other s p q
slot-more c a states from m (Some _) (master table entry due left hurt line only w) = master table entry due left hurt line only (or-more (from == 0) m (states 0) a w)
slot-more c a states from m (Some _) (slave table entry due left hurt h line only w) = slave table entry due left hurt h line only (λ d. ((w d).0, has-more (from == h) m (states h) (w d).1))
slot-more c a states from m (Some _) (sleep table entry due left hurt only) = sleep table entry due left hurt only
slot-more c a states from m (Some _) (carries table entry due left hurt h y ys k only at r n) =
    carries table entry due left hurt h y (if from == h then ys ++ m ∷ [] else ys) k only at (rest-more (from == h) m (states h) y ys r) (count-more (from == h) m (states h) ∙ n)

pub and-parts : (a b : Bool) → (a && b) ≡ true → (a ≡ true) × (b ≡ true)
and-parts true b h = (refl, h)
and-parts false b h = cc

pub or-false : (b : Bool) → (b || false) ≡ b
or-false true = refl
or-false false = refl

-- exactly one of both is host 0, and the other one has an address
abbrev has_other : Parts → ℕ → ℕ → Bool
has_other c from to = (from == 0 && not (to == 0) && is_some (nad c to)) || (to == 0 && not (from == 0) && is_some (nad c from))

pub address-zero : (c : Parts) (to : ℕ) → has_other c 0 to ≡ true → is_some (nad c to) ≡ true
address-zero c to h =
    let e : (not (to == 0) && is_some (nad c to)) ≡ true = rw (and-false (to == 0), or-false (not (to == 0) && is_some (nad c to))) at h
    in (and-parts (not (to == 0)) (is_some (nad c to)) e).1

pub address-other : (c : Parts) (from to : ℕ) → (to == 0 && not false && is_some (nad c from)) ≡ true → is_some (nad c from) ≡ true
address-other c from to h = (and-parts (to == 0 && not false) (is_some (nad c from)) h).1

-- where a message can be sent, its link is one of its host
pub link-is : (c : Parts) (from to : ℕ) (b : Bool) → (from == 0) ≡ b → has_other c from to ≡ true → IsLink c from (if b then record_of to Down else record_of from Up)
link-is c from to true e h =
    let z : from ≡ 0 = grind (arith, nat_tests, e)
    in record { host = sym z; address = address-zero c to (rw z at h) }
link-is c from to false e h = record { host = refl; address = address-other c from to (rw e at h) }

-- where it can be sent, it can go
pub goes-by : (c : Parts) (from to : ℕ) (message : List ℕ) (b : Bool) → (to == functional) ≡ b → IsSound c → has_route c from to ≡ true → 1 ≤ length message → length message ≤ most_message_bytes to
    → CanGo c from (record { link = link_of from to; bytes = message })
goes-by c from to message true is sound h some few =
    let parts : (from == 0 && has_responder_address c) ≡ true = rw is at h
    in let both = and-parts (from == 0) (has_responder_address c) parts
    in let z : from ≡ 0 = grind (arith, nat_tests, both.0)
    in let all : to ≡ functional = grind (arith, nat_tests, is)
    in let short : length message ≤ 6 = rw is at few
    in rw (z, all) (can-go-all c message both.1 (record { some = some; few = omega arith }) short)
goes-by c from to message false is sound h some few =
    let own : has_other c from to ≡ true = rw is at h
    in let short : length message ≤ 4095 = rw is at few
    in can-go c from (record { link = link_of from to; bytes = message }) sound (link-is c from to (from == 0) refl own) (record { some = some; few = short })

abbrev pub send-known : (c : Parts) (capacity : ℕ) (past : List LogEntry) (port : PortId) (from to : ℕ) (message : List ℕ) (es : List Event)
    → IsSound c → refusal c capacity past port (Send from to message) ≡ None → Known c past → Known c (entry_is port (Send from to message) es ∷ past)
send-known c capacity past port from to message es sound h k =
    let all : AllFalse (refusals c capacity past port (Send from to message)) = none-of (refusals c capacity past port (Send from to message)) h
    in let m : Message = record { link = link_of from to; bytes = message }
    in let size = both-false (length message == 0) (nat_lt (most_message_bytes to) (length message)) all.1.1.0
    in let some : 1 ≤ length message = let e : (length message == 0) ≡ false = size.0 in grind (arith, nat_tests)
    in let few : length message ≤ most_message_bytes to = let e : nat_lt (most_message_bytes to) (length message) ≡ false = size.1 in grind (arith, nat_tests)
    in let go : CanGo c from m = goes-by c from to message (to == functional) refl sound (not-false (has_route c from to) all.1.0) some few
    in record {
      states = λ x. more_if (from == x) m (k.states x);
      hosts = λ x. host-send-if c x (from == x) (accepted_from past x) (heard_on c past) (signs c past) (k.states x) m
          (λ e. let same : from ≡ x = grind (arith, nat_tests, e) in subst (λ (y : ℕ). CanGo c y m) same go) (k.hosts x);
      slot = slot-more c (is_sleep_asked past) k.states from m (open_slot past) k.slot;
    }

-- while nothing is put in the open slot, the blocks are those of the finished slots
pub no-put : (c : Parts) (table entry : ℕ) (header : Option ℕ) (due left : List ℕ) (hurt : Bool) (node : ℕ) (dir : Direction) → put_on c (record_of node dir) (slot_of table entry header due [] left hurt) ≡ []
no-put c table entry header due left hurt node Down = same-cond (header_is 0x3C header) []
no-put c table entry header due left hurt node Up = same-cond (header_is 0x7D header) []

pub blocks-closed : (c : Parts) (past : List LogEntry) (l : Link) → open_slot past ≡ None → blocks c past l ≡ blocks_of (signs c past l)
blocks-closed c past l is = rw is

pub blocks-empty : (c : Parts) (past : List LogEntry) (l : Link) (table entry : ℕ) (header : Option ℕ) (due left : List ℕ) (hurt : Bool) → open_slot past ≡ Some (slot_of table entry header due [] left hurt) → blocks c past l ≡ blocks_of (signs c past l)
blocks-empty c past l table entry header due left hurt is = rw (is, no-put c table entry header due left hurt l.node l.dir)

-- how a host stands then
pub record IsQuietNow (c : Parts) (past : List LogEntry) : Type 0 where
  pub blocks : (l : Link) → blocks c past l ≡ blocks_of (signs c past l)

pub stands : (c : Parts) (past : List LogEntry) (h : ℕ) (s : HostState) → IsQuietNow c past → HostIs c h (accepted_from past h) (heard_on c past) (signs c past) s → Stands c h (blocks c past) (accepted_from past h) s
stands c past h s q i = host-stands c h (blocks c past) (accepted_from past h) (heard_on c past) (signs c past) s q.blocks i

-- where nothing is left, nothing waits
pub waiting-nothing : (c : Parts) (past : List LogEntry) (h : ℕ) (done : List (Message × Fate)) (rest : List Message) (k : ℕ) → IsQuietNow c past
    → HostIs c h (accepted_from past h) (heard_on c past) (signs c past) (record { done = done; rest = rest; count = k }) → has_rest rest ≡ false → waiting c past h ≡ []
waiting-nothing c past h done [] k q i e = waiting-none c h (blocks c past) (accepted_from past h) done k (stands c past h (record { done = done; rest = []; count = k }) q i)
waiting-nothing c past h done (m ∷ ms) k q i e = cc

-- so where something waits, something is left
pub rest-by : (c : Parts) (past : List LogEntry) (h : ℕ) (s : HostState) (b : Bool) → IsQuietNow c past → HostIs c h (accepted_from past h) (heard_on c past) (signs c past) s
    → has_rest s.rest ≡ b → nat_lt 0 (length (waiting c past h)) ≡ true → b ≡ true
rest-by c past h s true q i e w = refl
rest-by c past h s false q i e w = let n : waiting c past h ≡ [] = waiting-nothing c past h s.done s.rest s.count q i e in absurd (let bad : false ≡ true = rw n at w in cc)

pub rest-some : (c : Parts) (past : List LogEntry) (h : ℕ) (s : HostState) → IsQuietNow c past → HostIs c h (accepted_from past h) (heard_on c past) (signs c past) s
    → nat_lt 0 (length (waiting c past h)) ≡ true → has_rest s.rest ≡ true
rest-some c past h s q i w = rest-by c past h s (has_rest s.rest) q i refl w

-- the next frame of a host
pub data NextIs (c : Parts) (bytes : List ℕ) (s : HostState) : Type 0 where
  is_sleep : bytes ≡ sleep_frame → NextIs c bytes s
  is_frame : (m : Message) (ms : List Message) (k : ℕ) → s.rest ≡ m ∷ ms → s.count ≡ k → bytes ≡ frame (link_address c m.link) m.bytes k → NextIs c bytes s

pub next-is : (c : Parts) (past : List LogEntry) (h : ℕ) (done : List (Message × Fate)) (rest : List Message) (k : ℕ) (sleeping : Bool) → IsQuietNow c past
    → HostIs c h (accepted_from past h) (heard_on c past) (signs c past) (record { done = done; rest = rest; count = k }) → (has_rest rest || sleeping) ≡ true
    → NextIs c (next_frame c past h sleeping) (record { done = done; rest = rest; count = k })
next-is c past h done [] k false q i w = cc
next-is c past h done [] k true q i w =
    let e : begun_sending c past h ≡ None = begun-none c h (blocks c past) (accepted_from past h) done k (stands c past h (record { done = done; rest = []; count = k }) q i)
    in is_sleep (rw e)
next-is c past h done (m ∷ ms) zero true q i w =
    let e : begun_sending c past h ≡ None = begun-fresh c h (blocks c past) (accepted_from past h) done m ms (stands c past h (record { done = done; rest = m ∷ ms; count = 0 }) q i)
    in is_sleep (rw e)
next-is c past h done (m ∷ ms) zero false q i w =
    let st : Stands c h (blocks c past) (accepted_from past h) (record { done = done; rest = m ∷ ms; count = 0 }) = stands c past h (record { done = done; rest = m ∷ ms; count = 0 }) q i
    in let e : begun_sending c past h ≡ None = begun-fresh c h (blocks c past) (accepted_from past h) done m ms st
    in is_frame m ms 0 refl refl (rw (e, waiting-fresh c h (blocks c past) (accepted_from past h) done m ms st))
next-is c past h done (m ∷ ms) (suc j) sleeping q i w =
    is_frame m ms (suc j) refl refl (next-begun c h (blocks c past) (accepted_from past h) done m ms j (if sleeping then sleep_frame else first_frame c (waiting c past h)) (stands c past h (record { done = done; rest = m ∷ ms; count = suc j }) q i))

-- without an ask for sleep it is a frame
pub next-frame : (c : Parts) (past : List LogEntry) (h : ℕ) (done : List (Message × Fate)) (rest : List Message) (k : ℕ) → IsQuietNow c past
    → HostIs c h (accepted_from past h) (heard_on c past) (signs c past) (record { done = done; rest = rest; count = k }) → has_rest rest ≡ true
    → (m : Message) × (ms : List Message) × (rest ≡ m ∷ ms) × (next_frame c past h false ≡ frame (link_address c m.link) m.bytes k)
next-frame c past h done [] k q i w = cc
next-frame c past h done (m ∷ ms) zero q i w =
    let st : Stands c h (blocks c past) (accepted_from past h) (record { done = done; rest = m ∷ ms; count = 0 }) = stands c past h (record { done = done; rest = m ∷ ms; count = 0 }) q i
    in let e : begun_sending c past h ≡ None = begun-fresh c h (blocks c past) (accepted_from past h) done m ms st
    in (m, ms, refl, rw (e, waiting-fresh c h (blocks c past) (accepted_from past h) done m ms st))
next-frame c past h done (m ∷ ms) (suc j) q i w =
    (m, ms, refl, next-begun c h (blocks c past) (accepted_from past h) done m ms j (first_frame c (waiting c past h)) (stands c past h (record { done = done; rest = m ∷ ms; count = suc j }) q i))

-- what the first refusal being none says of an answer
pub answer-allowed : (c : Parts) (capacity : ℕ) (past : List LogEntry) (port : PortId) (node : ℕ)
    → refusal c capacity past port (Answer node) ≡ None
    → (in_slot past (λ s. is_in s.due node) ≡ true) × (in_slot past (λ s. has_decided s node) ≡ false)
answer-allowed c capacity past port node h =
    let all = none-of (refusals c capacity past port (Answer node)) h
    in (not-false _ (both-false _ _ all.1.1.0).1, all.1.1.1.0)

abbrev pub answer_entry : Parts → List LogEntry → PortId → ℕ → LogEntry
answer_entry c past port node = entry_is port (Answer node) (option_map_or (put_event c past node) (open_slot past) [])

-- host 0 sends down and the others up
pub goes-down : (c : Parts) (node : ℕ) (dir : Direction) (bytes : List ℕ) → IsSound c → CanGo c 0 (record { link = record_of node dir; bytes = bytes }) → dir ≡ Down
goes-down c node Down bytes sound go = refl
goes-down c node Up bytes sound go =
    let l : IsLink c 0 (record_of node Up) = go.one refl
    in let z : node ≡ 0 = l.host
    in let none : is_some (nad c node) ≡ false = rw (z, sound.commander)
    in absurd (let some : is_some (nad c node) ≡ true = l.address in let bad : true ≡ false = sym some ∙ none in cc)

pub goes-up : (h node : ℕ) (dir : Direction) → h ≢ 0 → host_of (record_of node dir) ≡ h → dir ≡ Up
goes-up h node Down some host = absurd (some (sym host))
goes-up h node Up some host = refl

pub slot-down : (c : Parts) (table entry : ℕ) (due left : List ℕ) (hurt : Bool) (node : ℕ) (dir : Direction) (f : List ℕ) → dir ≡ Down
    → frame_slot table entry due left hurt (record_of node dir) f ≡ slot_of table entry (Some 0x3C) due ((0, with_classic f) ∷ []) left hurt
slot-down c table entry due left hurt node dir f e = rw e

pub slot-up : (c : Parts) (table entry : ℕ) (due left : List ℕ) (hurt : Bool) (node : ℕ) (dir : Direction) (f : List ℕ) → dir ≡ Up
    → frame_slot table entry due left hurt (record_of node dir) f ≡ slot_of table entry (Some 0x7D) due ((node, with_classic f) ∷ []) left hurt
slot-up c table entry due left hurt node dir f e = rw e

pub host-up : (node : ℕ) (dir : Direction) (h : ℕ) → dir ≡ Up → host_of (record_of node dir) ≡ h → node ≡ h
host-up node dir h e p = rw e at p

pub told-header : (o : Option ℕ) (n : ℕ) (f : ℕ → List ℕ) (s : Slot) → (slot_after_events (option_map_or (λ h. PutEvent n (f h) ∷ []) o []) s).header ≡ s.header
told-header None n f s = refl
told-header (Some h) n f s = refl

pub told-service : (o : Option ℕ) (n : ℕ) (f : ℕ → List ℕ) (s : Slot) → (slot_after_events (option_map_or (λ h. PutEvent n (f h) ∷ []) o []) s).service ≡ s.service
told-service None n f s = refl
told-service (Some h) n f s = refl

pub any-of : (xs : List ℕ) (h n : ℕ) (f : List ℕ) → n ≡ h → (list_any (λ (p : ℕ × List ℕ). p.0 == n) ((h, f) ∷ []) || is_in xs n) ≡ true
any-of xs h n f e = let t : (h == n) ≡ true = grind (arith, nat_tests, e) in rw t

pub first-go : (c : Parts) (h : ℕ) (accepted : List Message) (heard : Link → List Heard) (signs : Link → List Sign) (s : HostState) (m : Message) (ms : List Message) → s.rest ≡ m ∷ ms → HostIs c h accepted heard signs s → CanGo c h m
first-go c h accepted heard signs s m ms e i = let g : AllCanGo c h (m ∷ ms) = subst (λ (r : List Message). AllCanGo c h r) e i.can_go in g.0

-- the slot after an answer
pub master-slot : (c : Parts) (past : List LogEntry) (port : PortId) (node table entry : ℕ) (due left : List ℕ) (hurt : Bool) → IsSound c → (k : Known c past) → open_slot past ≡ Some (slot_of table entry (Some 0x3C) due [] left hurt)
    → (line_of c table entry).entry ≡ MasterReq → OnlyDue due 0 → node ≡ 0 → NextIs c (next_frame c past 0 (is_sleep_asked past)) (k.states 0) → SlotIs c (is_sleep_asked past) k.states (open_slot (answer_entry c past port node ∷ past))
master-slot c past port node table entry due left hurt sound k is line only z (is_sleep e) = rw (is, line, z, e) (sleep table entry due left hurt only)
master-slot c past port node table entry due left hurt sound k is line only z (is_frame m ms j r n e) =
    let go : CanGo c 0 m = first-go c 0 (accepted_from past 0) (heard_on c past) (signs c past) (k.states 0) m ms r (k.hosts 0)
    in let down : m.link.dir ≡ Down = goes-down c m.link.node m.link.dir m.bytes sound go
    in let shape : SlotIs c (is_sleep_asked past) k.states (Some (frame_slot table entry due left hurt m.link (frame (link_address c m.link) m.bytes j))) = carries table entry due left hurt 0 m ms j only go.host r n
    in rw (is, line, z, e) (subst (λ (s : Slot). SlotIs c (is_sleep_asked past) k.states (Some s)) (slot-down c table entry due left hurt m.link.node m.link.dir (frame (link_address c m.link) m.bytes j) down) shape)

pub slave-slot : (c : Parts) (past : List LogEntry) (port : PortId) (node table entry : ℕ) (due left : List ℕ) (hurt : Bool) (h : ℕ) → (k : Known c past) → open_slot past ≡ Some (slot_of table entry (Some 0x7D) due [] left hurt)
    → (line_of c table entry).entry ≡ SlaveResp → OnlyDue due h → node ≡ h → h ≢ 0 → IsQuietNow c past → has_rest (k.states h).rest ≡ true → SlotIs c (is_sleep_asked past) k.states (open_slot (answer_entry c past port node ∷ past))
slave-slot c past port node table entry due left hurt h k is line only z some q w =
    let next = next-frame c past h (k.states h).done (k.states h).rest (k.states h).count q (k.hosts h) w
    in let m : Message = next.0
    in let j : ℕ = (k.states h).count
    in let f : List ℕ = frame (link_address c m.link) m.bytes j
    in let go : CanGo c h m = first-go c h (accepted_from past h) (heard_on c past) (signs c past) (k.states h) m next.1 next.2 (k.hosts h)
    in let up : m.link.dir ≡ Up = goes-up h m.link.node m.link.dir some go.host
    in let own : m.link.node ≡ h = host-up m.link.node m.link.dir h up go.host
    in let shape : SlotIs c (is_sleep_asked past) k.states (Some (frame_slot table entry due left hurt m.link f)) = carries table entry due left hurt h m next.1 j only go.host next.2 refl
    in let at : SlotIs c (is_sleep_asked past) k.states (Some (slot_of table entry (Some 0x7D) due ((m.link.node, with_classic f) ∷ []) left hurt)) = subst (λ (s : Slot). SlotIs c (is_sleep_asked past) k.states (Some s)) (slot-up c table entry due left hurt m.link.node m.link.dir f up) shape
    in let there : SlotIs c (is_sleep_asked past) k.states (Some (slot_of table entry (Some 0x7D) due ((h, with_classic f) ∷ []) left hurt)) = subst (λ (x : ℕ). SlotIs c (is_sleep_asked past) k.states (Some (slot_of table entry (Some 0x7D) due ((x, with_classic f) ∷ []) left hurt))) own at
    in rw (is, line, z, next.3) there

pub answer-slot : (c : Parts) (past : List LogEntry) (port : PortId) (node : ℕ) → IsSound c → (k : Known c past) → (o : Option Slot) → open_slot past ≡ o → SlotIs c (is_sleep_asked past) k.states o
    → in_slot past (λ s. is_in s.due node) ≡ true → in_slot past (λ s. has_decided s node) ≡ false
    → SlotIs c (is_sleep_asked past) k.states (open_slot (answer_entry c past port node ∷ past))
answer-slot c past port node sound k None is closed due decided = rw is closed
answer-slot c past port node sound k (Some _) is (served s e) due decided =
    let es : List Event = put_event c past node s
    in rw is (served (slot_after_events es s) (told-service s.header node (λ h. put_by c past s h node) s ∙ e))
answer-slot c past port node sound k (Some _) is (other s p q) due decided =
    let es : List Event = put_event c past node s
    in let e : (slot_after_events es s).header ≡ s.header = told-header s.header node (λ h. put_by c past s h node) s
    in rw is (other (slot_after_events es s) (rw e p) (rw e q))
answer-slot c past port node sound k (Some _) is (master table entry due left hurt line only w) d decided =
    let quiet : IsQuietNow c past = record { blocks = λ l. blocks-empty c past l table entry (Some 0x3C) due left hurt is }
    in let z : node ≡ 0 = only node (rw is at d)
    in master-slot c past port node table entry due left hurt sound k is line only z (next-is c past 0 (k.states 0).done (k.states 0).rest (k.states 0).count (is_sleep_asked past) quiet (k.hosts 0) w)
answer-slot c past port node sound k (Some _) is (slave table entry due left hurt h line only w) d decided =
    let quiet : IsQuietNow c past = record { blocks = λ l. blocks-empty c past l table entry (Some 0x7D) due left hurt is }
    in let yes : is_in due node ≡ true = rw is at d
    in let z : node ≡ h = only node yes
    in let has = w (rw z at yes)
    in slave-slot c past port node table entry due left hurt h k is line only z has.0 quiet has.1
answer-slot c past port node sound k (Some _) is (sleep table entry due left hurt only) d decided =
    let z : node ≡ 0 = only node (rw is at d)
    in let no : (list_any (λ (p : ℕ × List ℕ). p.0 == node) ((0, with_classic sleep_frame) ∷ []) || is_in left node) ≡ false = rw is at decided
    in absurd (let yes = any-of left 0 node (with_classic sleep_frame) z in let bad : true ≡ false = sym yes ∙ no in cc)
answer-slot c past port node sound k (Some _) is (carries table entry due left hurt h m ms j only host r n) d decided =
    let f : List ℕ = frame (link_address c m.link) m.bytes j
    in let z : node ≡ host_of m.link = only node (rw is at d) ∙ sym host
    in let no : (list_any (λ (p : ℕ × List ℕ). p.0 == node) ((host_of m.link, with_classic f) ∷ []) || is_in left node) ≡ false = rw is at decided
    in absurd (let yes = any-of left (host_of m.link) node (with_classic f) z in let bad : true ≡ false = sym yes ∙ no in cc)

abbrev pub answer-known : (c : Parts) (capacity : ℕ) (past : List LogEntry) (port : PortId) (node : ℕ) → IsSound c
    → refusal c capacity past port (Answer node) ≡ None → Known c past → Known c (answer_entry c past port node ∷ past)
answer-known c capacity past port node sound h k =
    let a = answer-allowed c capacity past port node h
    in record { states = k.states; hosts = k.hosts; slot = answer-slot c past port node sound k (open_slot past) refl k.slot a.0 a.1 }

-- an open
told-due : (ns : List ℕ) (table entry : ℕ) (header : Option ℕ) (service : Bool) (due : List ℕ) → slot_after_events (map Due ns) (opening_slot table entry header service due) ≡ opening_slot table entry header service (due ++ ns)
told-due [] table entry header service due = rw (append-nil due)
told-due (n ∷ ns) table entry header service due = told-due ns table entry header service (due ++ n ∷ []) ∙ rw (append_assoc due (n ∷ []) ns)

pub told-open : (service : Bool) (ns : List ℕ) (table entry : ℕ) (header : Option ℕ) → slot_after_events (service_events service ++ map Due ns) (opening_slot table entry header false []) ≡ opening_slot table entry header service ns
told-open true ns table entry header = told-due ns table entry header true []
told-open false ns table entry header = told-due ns table entry header false []

pub in-filter-by : (p : ℕ → Bool) (x : ℕ) (xs : List ℕ) (n : ℕ) (b : Bool) → (is_in (filter p xs) n ≡ true → p n ≡ true) → p x ≡ b → is_in (cond b (x ∷ filter p xs) (filter p xs)) n ≡ true → p n ≡ true
in-filter-by p x xs n true r e h = elim (eqb_tells x n) [ inl same ↦ subst (λ (y : ℕ). p y ≡ true) same.1 e | inr differ ↦ r (rw differ.0 at h) ]
in-filter-by p x xs n false r e h = r h

pub in-filter : (p : ℕ → Bool) (xs : List ℕ) (n : ℕ) → is_in (filter p xs) n ≡ true → p n ≡ true
in-filter p [] n h = cc
in-filter p (x ∷ xs) n h = in-filter-by p x xs n (p x) (in-filter p xs n) refl h

pub signal-other : (c : Parts) (asked : Bool) (states : ℕ → HostState) (table entry pid : ℕ) (due : List ℕ) → IsSignalPid pid → SlotIs c asked states (Some (slot_of table entry (Some pid) due [] [] false))
signal-other c asked states table entry pid due own = other (slot_of table entry (Some pid) due [] [] false) (ne_eqb pid 0x3C own.request) (ne_eqb pid 0x7D own.response)

pub none-other : (c : Parts) (asked : Bool) (states : ℕ → HostState) (table entry : ℕ) (due : List ℕ) → SlotIs c asked states (Some (slot_of table entry None due [] [] false))
none-other c asked states table entry due = other (slot_of table entry None due [] [] false) refl refl

pub sporadic-other : (c : Parts) (asked : Bool) (states : ℕ → HostState) (table entry : ℕ) (o : Option ℕ) (due : List ℕ) → IsSound c
    → SlotIs c asked states (Some (slot_of table entry (option_map (λ f. (frame_of c f).pid) o) due [] [] false))
sporadic-other c asked states table entry None due sound = none-other c asked states table entry due
sporadic-other c asked states table entry (Some f) due sound = signal-other c asked states table entry (frame_of c f).pid due (sound.frames f)

pub or-of : (a b d : Bool) → (a ≡ true → d ≡ true) → (a || b) ≡ true → (d || b) ≡ true
or-of true b d f h = rw (f refl)
or-of false true d f h = rw (or-right d)
or-of false false d f h = cc

pub master-by : (c : Parts) (past : List LogEntry) (table entry : ℕ) (due : List ℕ) (b : Bool) → (k : Known c past) → IsQuietNow c past → (line_of c table entry).entry ≡ MasterReq → OnlyDue due 0
    → (nat_lt 0 (length (waiting c past 0)) || is_sleep_asked past) ≡ b → SlotIs c (is_sleep_asked past) k.states (Some (slot_of table entry (if b then Some 0x3C else None) due [] [] false))
master-by c past table entry due false k q line only e = none-other c (is_sleep_asked past) k.states table entry due
master-by c past table entry due true k q line only e =
    master table entry due [] false line only (or-of (nat_lt 0 (length (waiting c past 0))) (is_sleep_asked past) (has_rest (k.states 0).rest) (rest-some c past 0 (k.states 0) q (k.hosts 0)) e)

pub eq-zero : (n : ℕ) (b : Bool) → (n == 0 && b) ≡ true → n ≡ 0
eq-zero n b h = let e : (n == 0) ≡ true = (and-parts (n == 0) b h).0 in grind (arith, nat_tests, e)

-- who is selected has an address, so it is not the commander
abbrev pub NotZero : Option ℕ → Type 0
NotZero o = (n : ℕ) → o ≡ Some n → n ≢ 0

pub found-by : (p : ℕ → Bool) (x : ℕ) (xs : List ℕ) (n : ℕ) (b : Bool) → (find p xs ≡ Some n → p n ≡ true) → p x ≡ b → cond b (Some x) (find p xs) ≡ Some n → p n ≡ true
found-by p x xs n true r e h = let same : x ≡ n = cc in subst (λ (y : ℕ). p y ≡ true) same e
found-by p x xs n false r e h = r h

pub found-passes : (p : ℕ → Bool) (xs : List ℕ) (n : ℕ) → find p xs ≡ Some n → p n ≡ true
found-passes p [] n h = cc
found-passes p (x ∷ xs) n h = found-by p x xs n (p x) (found-passes p xs n) refl h

pub node-some : (c : Parts) (k : ℕ) → IsSound c → NotZero (node_with c k)
node-some c k sound n h z =
    let p : option_map_or (λ own. own == k) (nad c n) false ≡ true = found-passes (λ j. option_map_or (λ own. own == k) (nad c j) false) (numbers (nodes c)) n h
    in let bad : false ≡ true = rw (z, sound.commander) at p in cc

pub choose-some : (o : Option (Option ℕ)) (d : Option ℕ) → NotZero d → ((x : Option ℕ) → o ≡ Some x → NotZero x) → NotZero (unwrap_or o d)
choose-some None d p q = p
choose-some (Some x) d p q = q x refl

pub addressed-by : (c : Parts) (b : Bool) (k : ℕ) (x : Option ℕ) → IsSound c → (if b then Some (node_with c k) else None) ≡ Some x → NotZero x
addressed-by c true k x sound e = let same : node_with c k ≡ x = cc in subst NotZero same (node-some c k sound)
addressed-by c false k x sound e = cc

pub addressed-some : (c : Parts) (o : Option (List ℕ)) (x : Option ℕ) → IsSound c
    → option_map_or (λ bytes. if nat_le 1 (slice_index bytes 0) && nat_le (slice_index bytes 0) 125 then Some (node_with c (slice_index bytes 0)) else None) o None ≡ Some x → NotZero x
addressed-some c None x sound e = cc
addressed-some c (Some bytes) x sound e = addressed-by c (nat_le 1 (slice_index bytes 0) && nat_le (slice_index bytes 0) 125) (slice_index bytes 0) x sound e

pub slot-some : (c : Parts) (o : Option Slot) (x : Option ℕ) → IsSound c → option_map_or (addressee c) o None ≡ Some x → NotZero x
slot-some c None x sound e = cc
slot-some c (Some s) x sound e = addressed-some c (good_under 0x3C s) x sound e

pub if-some : (b : Bool) (o : Option ℕ) → NotZero o → NotZero (if b then None else o)
if-some true o p = λ n e. cc
if-some false o p = p

pub selected-some : (c : Parts) (past : List LogEntry) → IsSound c → NotZero (selected_node c past)
selected-some c [] sound = λ n e. cc
selected-some c (e ∷ past) sound = if-some (is_sleep_mark e past) (unwrap_or (option_map_or (addressee c) (finished_slot e past) None) (selected_node c past))
    (choose-some (option_map_or (addressee c) (finished_slot e past) None) (selected_node c past) (selected-some c past sound) (λ x h. slot-some c (finished_slot e past) x sound h))

pub slave-by : (c : Parts) (past : List LogEntry) (table entry : ℕ) (o : Option ℕ) → (k : Known c past) → IsQuietNow c past → (line_of c table entry).entry ≡ SlaveResp → NotZero o → (due : List ℕ)
    → ((n : ℕ) → is_in due n ≡ true → option_map_or (λ k. n == k && nat_lt 0 (length (waiting c past k))) o false ≡ true)
    → SlotIs c (is_sleep_asked past) k.states (Some (slot_of table entry (Some 0x7D) due [] [] false))
slave-by c past table entry None k q line some due d = slave table entry due [] false 0 line (λ n i. absurd (let bad = d n i in cc)) (λ i. absurd (let bad = d 0 i in cc))
slave-by c past table entry (Some h) k q line some due d =
    slave table entry due [] false h line
    (λ n i. let e : (n == h) ≡ true = (and-parts (n == h) (nat_lt 0 (length (waiting c past h))) (d n i)).0 in grind (arith, nat_tests, e))
    (λ i. (some h refl, rest-some c past h (k.states h) q (k.hosts h) (and-parts (h == h) (nat_lt 0 (length (waiting c past h))) (d h i)).1))

opened : (c : Parts) (past : List LogEntry) (table entry : ℕ) (kind : Entry) → is_service c past kind ≡ false → IsSound c → (k : Known c past) → IsQuietNow c past → (line_of c table entry).entry ≡ kind
    → SlotIs c (is_sleep_asked past) k.states (Some (slot_of table entry (header c past kind) (plain_nodes c past kind) [] [] false))
opened c past table entry (FrameEntry f) plain sound k q line = signal-other c (is_sleep_asked past) k.states table entry (frame_of c f).pid _ (sound.frames f)
opened c past table entry (Sporadic j) plain sound k q line = sporadic-other c (is_sleep_asked past) k.states table entry (find (is_pending c past) (sporadic_of c j)) _ sound
opened c past table entry (EventEntry e) plain sound k q line = signal-other c (is_sleep_asked past) k.states table entry (event_of c e).pid _ (sound.events e)
opened c past table entry MasterReq plain sound k q line =
    master-by c past table entry (plain_nodes c past MasterReq) (nat_lt 0 (length (waiting c past 0)) || is_sleep_asked past) k q line
    (λ n i. eq-zero n (is_some (header c past MasterReq)) (in-filter (is_due c past MasterReq) (numbers (nodes c)) n i)) refl
opened c past table entry SlaveResp plain sound k q line =
    slave-by c past table entry (selected_node c past) k q line (selected-some c past sound) (plain_nodes c past SlaveResp) (λ n i. in-filter (is_due c past SlaveResp) (numbers (nodes c)) n i)
opened c past table entry (Fixed request) plain sound k q line = absurd (cc)
opened c past table entry Quiet plain sound k q line = none-other c (is_sleep_asked past) k.states table entry _

pub opened-by : (c : Parts) (past : List LogEntry) (table entry : ℕ) (kind : Entry) (b : Bool) → is_service c past kind ≡ b → IsSound c → (k : Known c past) → IsQuietNow c past → (line_of c table entry).entry ≡ kind
    → SlotIs c (is_sleep_asked past) k.states (Some (opening_slot table entry (header c past kind) b (if b then served_nodes c past kind else plain_nodes c past kind)))
opened-by c past table entry kind true e sound k q line = served (opening_slot table entry (header c past kind) true (served_nodes c past kind)) refl
opened-by c past table entry kind false e sound k q line = opened c past table entry kind e sound k q line

abbrev pub open-known : (c : Parts) (opening capacity : ℕ) (past : List LogEntry) (port : PortId) → IsSound c
    → refusal c capacity past port Open ≡ None → Known c past → Known c (entry_is port Open (opening_events c opening past) ∷ past)
open-known c opening capacity past port sound h k =
    let none : open_slot past ≡ None = is_open-false (open_slot past) (none-of (refusals c capacity past port Open) h).1.0
    in let at : ℕ × ℕ = next_due c opening past
    in let kind : Entry = (line_of c at.0 at.1).entry
    in record {
      states = k.states;
      hosts = k.hosts;
      slot = subst (λ (s : Slot). SlotIs c (is_sleep_asked past) k.states (Some s)) (sym (told-open (is_service c past kind) (due_nodes c past kind) at.0 at.1 (header c past kind)))
          (opened-by c past at.0 at.1 kind (is_service c past kind) refl sound k (record { blocks = λ l. blocks-closed c past l none }) refl);
    }

-- each step, and each history
abbrev pub step-known : (c : Parts) (opening capacity : ℕ) (past : List LogEntry) (port : PortId) (step : Step) → IsSound c → Known c past
    → (r : Option Refusal) → refusal c capacity past port step ≡ r
    → Known c (record { port = port; step = step; reply = option_map_or Refused r (Done (done_events c opening past port step)) } ∷ past)
step-known c opening capacity past port step sound k (Some r) h = refused-known c past port step r k
step-known c opening capacity past port (Send from to message) sound k None h = send-known c capacity past port from to message _ sound h k
step-known c opening capacity past port (Write by signal value) sound k None h = write-known c past port by signal value k
step-known c opening capacity past port Open sound k None h = open-known c opening capacity past port sound h k
step-known c opening capacity past port (Answer node) sound k None h = answer-known c capacity past port node sound h k
step-known c opening capacity past port (Leave node) sound k None h = leave-known c past port node _ k
step-known c opening capacity past port (Hurt bytes) sound k None h = hurt-known c past port bytes _ k
step-known c opening capacity past port Finish sound k None h = finish-known c past port _ sound k (open_slot past) refl k.slot
step-known c opening capacity past port (Timeout node dir) sound k None h =
    timeout-known c past port node dir _ (is_open-false (open_slot past) (none-of (refusals c capacity past port (Timeout node dir)) h).1.0) k
step-known c opening capacity past port (Switch table) sound k None h = switch-known c past port table k
step-known c opening capacity past port AskSleep sound k None h = ask-known c past port _ k
step-known c opening capacity past port Wake sound k None h = wake-known c past port _ k
step-known c opening capacity past port (Close host) sound k None h = close-known c past port host _ k

abbrev pub start-known : (c : Parts) → Known c []
start-known c = record {
  states = λ h. record { done = []; rest = []; count = 0 };
  hosts = λ h. record { accepted_is = refl; are_done = tt; can_go = tt; counts = tt; links = λ l i. record { heard_is = refl; track = record { settled = tt; reads = refl } } };
  slot = closed;
}

pub history-known : (c : Parts) (opening capacity : ℕ) (steps : List (PortId × Step)) → IsSound c → Known c (history c opening capacity steps)
unfolding reply
history-known c opening capacity [] sound = start-known c
history-known c opening capacity (s ∷ earlier) sound =
    step-known c opening capacity (history c opening capacity earlier) s.0 s.1 sound (history-known c opening capacity earlier sound) (refusal c capacity (history c opening capacity earlier) s.0 s.1) refl
