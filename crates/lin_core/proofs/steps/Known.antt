-- What is known of each history, and how each step keeps it.
use Rattle.lin_frame.specs.declared.value.Value.{Value}
use Rattle.std.proofs.Common.{◌≡◌, ◌≢◌, ℕ, Bool, true, false, List, [], ◌∷◌, ◌++◌, refl, ap, sym, ◌∙◌, subst, inl, inr}
use Rattle.std.specs.Prelude.{Option, Some, None, ◌||◌, ◌==◌, if◌then◌else◌, is_some, option_map}
use Rattle.std.proofs.lemmas.Bool.Decides.{eqb_tells}
use Rattle.lin_transport.specs.Transport.{frame, Heard}
use Rattle.lin_parts.specs.declared.parts.Parts.{Parts}
use Rattle.lin_parts.specs.Cluster.{nad, line_of}
use Rattle.lin_core.specs.History.{Slot, open_slot, leave, slot_after_hurt, header_is, is_sleep_asked, is_sleep_slot, is_in}
use Rattle.lin_core.specs.Links.{Link, Message, host_of, accepted_from, Sign, link_address, goes_over, signs, heard_on}
use Rattle.lin_parts.specs.Sound.{IsSound}
use Rattle.lin_core.specs.declared.log.LogEntry.{LogEntry}
use Rattle.lin_core.specs.declared.port.PortId.{PortId}
use Rattle.lin_core.specs.declared.step.Step.{Step}
use Rattle.lin_core.specs.declared.step.Step.TheVariants.{Write, Leave, Hurt, Switch, AskSleep, Wake, Close}
use Rattle.lin_core.specs.declared.event.Event.{Event}
use Rattle.lin_parts.specs.declared.parts.Entry.TheVariants.{MasterReq, SlaveResp}
use Rattle.lin_core.specs.declared.reply.Reply.TheVariants.{Done, Refused}
use Rattle.lin_core.specs.declared.reply.Refusal.{Refusal}
use Rattle.lin_core.specs.declared.link.Cause.TheVariants.{Slept}
use Rattle.lin_core.proofs.sendings.Hosts.{HostState, HostIs, CanGo}
use Rattle.lin_core.proofs.sendings.Moves.{Puts, advanced, is_last, marked, host-put, host-same, host-mark, over-host}
use Rattle.lin_core.proofs.links.Finishes.{finish_entry, slot_of, sleep_slot, frame_slot, finish-signs, finish-heard, IsQuiet, other-quiet, empty-quiet, sleep-hurt, sleep-good, served-quiet, served-sleeps, Sleeps, HasNad, IsPlace, value-of, Adds, frame-adds, frame-is}

-- whether a host has something that waits
abbrev pub has_rest : List Message → Bool
has_rest [] = false
has_rest (m ∷ ms) = true

abbrev pub OnlyDue : List ℕ → ℕ → Type 0
OnlyDue due h = (n : ℕ) → is_in due n ≡ true → n ≡ h

-- the shapes of the open slot
pub data SlotIs (c : Parts) (asked : Bool) (states : ℕ → HostState) : Option Slot → Type 0 where
  closed : SlotIs c asked states None
  served : (s : Slot) → s.service ≡ true → SlotIs c asked states (Some s)
  other : (s : Slot) → header_is 0x3C s.header ≡ false → header_is 0x7D s.header ≡ false → SlotIs c asked states (Some s)
  master : (table entry : ℕ) (due left : List ℕ) (hurt : Bool) → (line_of c table entry).entry ≡ MasterReq → OnlyDue due 0 → (has_rest (states 0).rest || asked) ≡ true
      → SlotIs c asked states (Some (slot_of table entry (Some 0x3C) due [] left hurt))
  slave : (table entry : ℕ) (due left : List ℕ) (hurt : Bool) (h : ℕ) → (line_of c table entry).entry ≡ SlaveResp → OnlyDue due h → (is_in due h ≡ true → (h ≢ 0) × (has_rest (states h).rest ≡ true))
      → SlotIs c asked states (Some (slot_of table entry (Some 0x7D) due [] left hurt))
  sleep : (table entry : ℕ) (due left : List ℕ) (hurt : Bool) → OnlyDue due 0 → SlotIs c asked states (Some (sleep_slot table entry due left hurt))
  carries : (table entry : ℕ) (due left : List ℕ) (hurt : Bool) (h : ℕ) (m : Message) (ms : List Message) (k : ℕ) → OnlyDue due h → host_of m.link ≡ h → (states h).rest ≡ m ∷ ms → (states h).count ≡ k
      → SlotIs c asked states (Some (frame_slot table entry due left hurt m.link (frame (link_address c m.link) m.bytes k)))

pub record Known (c : Parts) (past : List LogEntry) : Type 0 where
  pub states : ℕ → HostState
  pub hosts : (h : ℕ) → HostIs c h (accepted_from past h) (heard_on c past) (signs c past) (states h)
  pub slot : SlotIs c (is_sleep_asked past) states (open_slot past)

abbrev pub entry_is : PortId → Step → List Event → LogEntry
entry_is port step es = record { port = port; step = step; reply = Done es }

-- steps that leave all as it was
abbrev pub refused-known : (c : Parts) (past : List LogEntry) (port : PortId) (step : Step) (r : Refusal) → Known c past → Known c (record { port = port; step = step; reply = Refused r } ∷ past)
refused-known c past port step r k = record { states = k.states; hosts = k.hosts; slot = k.slot }

abbrev pub write-known : (c : Parts) (past : List LogEntry) (port : PortId) (by signal : ℕ) (value : Value) → Known c past → Known c (entry_is port (Write by signal value) [] ∷ past)
write-known c past port by signal value k = record { states = k.states; hosts = k.hosts; slot = k.slot }

abbrev pub switch-known : (c : Parts) (past : List LogEntry) (port : PortId) (table : ℕ) → Known c past → Known c (entry_is port (Switch table) [] ∷ past)
switch-known c past port table k = record { states = k.states; hosts = k.hosts; slot = k.slot }

abbrev pub wake-known : (c : Parts) (past : List LogEntry) (port : PortId) (es : List Event) → Known c past → Known c (entry_is port Wake es ∷ past)
wake-known c past port es k = record { states = k.states; hosts = k.hosts; slot = k.slot }

abbrev pub close-known : (c : Parts) (past : List LogEntry) (port : PortId) (host : ℕ) (es : List Event) → Known c past → Known c (entry_is port (Close host) es ∷ past)
close-known c past port host es k = record { states = k.states; hosts = k.hosts; slot = k.slot }

-- an ask for sleep
pub or-right : (a : Bool) → (a || true) ≡ true
or-right true = refl
or-right false = refl

pub slot-asked : (c : Parts) (a : Bool) (states : ℕ → HostState) (o : Option Slot) → SlotIs c a states o → SlotIs c true states o
slot-asked c a states None closed = closed
slot-asked c a states (Some _) (served s e) = served s e
slot-asked c a states (Some _) (other s p q) = other s p q
slot-asked c a states (Some _) (master table entry due left hurt line only w) = master table entry due left hurt line only (or-right (has_rest (states 0).rest))
slot-asked c a states (Some _) (slave table entry due left hurt h line only w) = slave table entry due left hurt h line only w
slot-asked c a states (Some _) (sleep table entry due left hurt only) = sleep table entry due left hurt only
slot-asked c a states (Some _) (carries table entry due left hurt h m ms k only at r n) = carries table entry due left hurt h m ms k only at r n

abbrev pub ask-known : (c : Parts) (past : List LogEntry) (port : PortId) (es : List Event) → Known c past → Known c (entry_is port AskSleep es ∷ past)
ask-known c past port es k = record { states = k.states; hosts = k.hosts; slot = slot-asked c (is_sleep_asked past) k.states (open_slot past) k.slot }

-- a leave and a hurt
pub slot-left : (c : Parts) (a : Bool) (states : ℕ → HostState) (node : ℕ) (o : Option Slot) → SlotIs c a states o → SlotIs c a states (option_map (leave node) o)
slot-left c a states node None closed = closed
slot-left c a states node (Some _) (served s e) = served (leave node s) e
slot-left c a states node (Some _) (other s p q) = other (leave node s) p q
slot-left c a states node (Some _) (master table entry due left hurt line only w) = master table entry due (left ++ node ∷ []) hurt line only w
slot-left c a states node (Some _) (slave table entry due left hurt h line only w) = slave table entry due (left ++ node ∷ []) hurt h line only w
slot-left c a states node (Some _) (sleep table entry due left hurt only) = sleep table entry due (left ++ node ∷ []) hurt only
slot-left c a states node (Some _) (carries table entry due left hurt h m ms k only at r n) = carries table entry due (left ++ node ∷ []) hurt h m ms k only at r n

abbrev pub leave-known : (c : Parts) (past : List LogEntry) (port : PortId) (node : ℕ) (es : List Event) → Known c past → Known c (entry_is port (Leave node) es ∷ past)
leave-known c past port node es k = record { states = k.states; hosts = k.hosts; slot = slot-left c (is_sleep_asked past) k.states node (open_slot past) k.slot }

pub slot-hurt : (c : Parts) (a : Bool) (states : ℕ → HostState) (o : Option Slot) → SlotIs c a states o → SlotIs c a states (option_map slot_after_hurt o)
slot-hurt c a states None closed = closed
slot-hurt c a states (Some _) (served s e) = served (slot_after_hurt s) e
slot-hurt c a states (Some _) (other s p q) = other (slot_after_hurt s) p q
slot-hurt c a states (Some _) (master table entry due left x line only w) = master table entry due left true line only w
slot-hurt c a states (Some _) (slave table entry due left x h line only w) = slave table entry due left true h line only w
slot-hurt c a states (Some _) (sleep table entry due left x only) = sleep table entry due left true only
slot-hurt c a states (Some _) (carries table entry due left x h m ms k only at r n) = carries table entry due left true h m ms k only at r n

abbrev pub hurt-known : (c : Parts) (past : List LogEntry) (port : PortId) (bytes : List ℕ) (es : List Event) → Known c past → Known c (entry_is port (Hurt bytes) es ∷ past)
hurt-known c past port bytes es k = record { states = k.states; hosts = k.hosts; slot = slot-hurt c (is_sleep_asked past) k.states (open_slot past) k.slot }

-- a finish
pub as-state : (c : Parts) (h : ℕ) (accepted : List Message) (heard : Link → List Heard) (signs : Link → List Sign) (s : HostState) (rest : List Message) (k : ℕ)
    → s.rest ≡ rest → s.count ≡ k → HostIs c h accepted heard signs s → HostIs c h accepted heard signs (record { done = s.done; rest = rest; count = k })
as-state c h accepted heard signs s rest k p q i =
    subst (λ (j : ℕ). HostIs c h accepted heard signs (record { done = s.done; rest = rest; count = j })) q
    (subst (λ (r : List Message). HostIs c h accepted heard signs (record { done = s.done; rest = r; count = s.count })) p i)

abbrev pub none-known : (c : Parts) (past : List LogEntry) (port : PortId) (es : List Event) → open_slot past ≡ None → Known c past → Known c (finish_entry port es ∷ past)
none-known c past port es is k = record {
  states = k.states;
  hosts = λ h. host-same c h (accepted_from past h) (heard_on c past) (heard_on c (finish_entry port es ∷ past)) (signs c past) (signs c (finish_entry port es ∷ past)) (k.states h) (k.hosts h)
      (λ l i. (rw is, rw is));
  slot = closed;
}

abbrev pub quiet-known : (c : Parts) (past : List LogEntry) (port : PortId) (es : List Event) (s : Slot) → open_slot past ≡ Some s → ((l : Link) → is_some (nad c l.node) ≡ true → IsQuiet c s l) → Known c past → Known c (finish_entry port es ∷ past)
quiet-known c past port es s is q k = record {
  states = k.states;
  hosts = λ h. host-same c h (accepted_from past h) (heard_on c past) (heard_on c (finish_entry port es ∷ past)) (signs c past) (signs c (finish_entry port es ∷ past)) (k.states h) (k.hosts h)
      (λ l i. (finish-heard c past port es s l is ∙ ap (λ (x : List Heard). x ++ heard_on c past l) (q l i.address).heard, finish-signs c past port es s l is ∙ ap (λ (x : List Sign). x ++ signs c past l) (q l i.address).signs));
  slot = closed;
}

pub has-nad : (c : Parts) (node : ℕ) → is_some (nad c node) ≡ true → HasNad c node
has-nad c node h = let v = value-of (nad c node) h in record { n = v.0; is = v.1 }

abbrev pub sleep-known : (c : Parts) (past : List LogEntry) (port : PortId) (es : List Event) (s : Slot) → open_slot past ≡ Some s → ((l : Link) → is_some (nad c l.node) ≡ true → Sleeps c s l)
    → Known c past → Known c (finish_entry port es ∷ past)
sleep-known c past port es s is sleeps k =
    record {
      states = λ h. marked (λ l. true) Slept (k.states h).done (k.states h).rest (k.states h).count;
      hosts = λ h. host-mark c h (accepted_from past h) (heard_on c past) (heard_on c (finish_entry port es ∷ past)) (signs c past) (signs c (finish_entry port es ∷ past)) (k.states h).done (k.states h).rest (k.states h).count (λ l. true) Slept (k.hosts h)
          (λ l i. let sl : Sleeps c s l = sleeps l i.address
          in record { heard_is = finish-heard c past port es s l is ∙ ap (λ (x : List Heard). x ++ heard_on c past l) sl.heard; signs_is = finish-signs c past port es s l is ∙ ap (λ (x : List Sign). x ++ signs c past l) sl.signs });
      slot = closed;
    }

-- a slot for a service
abbrev pub served-known : (c : Parts) (past : List LogEntry) (port : PortId) (es : List Event) (s : Slot) (b : Bool) → open_slot past ≡ Some s → s.service ≡ true → is_sleep_slot s ≡ b → Known c past → Known c (finish_entry port es ∷ past)
served-known c past port es s true is e b k = sleep-known c past port es s is (λ l i. served-sleeps c s l e b) k
served-known c past port es s false is e b k = quiet-known c past port es s is (λ l i. served-quiet c s l e b) k

pub served-same : (c : Parts) (past : List LogEntry) (port : PortId) (es ds : List Event) (s : Slot) (b : Bool) (is : open_slot past ≡ Some s) (e : s.service ≡ true) (h : is_sleep_slot s ≡ b) (k : Known c past) (x : ℕ)
    → (served-known c past port es s b is e h k).states x ≡ (served-known c past port ds s b is e h k).states x
served-same c past port es ds s true is e h k x = refl
served-same c past port es ds s false is e h k x = refl

-- the place of a message of a host
pub place-of : (c : Parts) (h : ℕ) (m : Message) → CanGo c h m → IsPlace c m.link
place-of c h m go = λ one. has-nad c m.link.node (go.one one).address

-- the frame on the links of its host, and of others
pub puts-by : (c : Parts) (past : List LogEntry) (port : PortId) (es : List Event) (table entry : ℕ) (due left : List ℕ) (hurt : Bool) (to l : Link) (f : List ℕ)
    → open_slot past ≡ Some (frame_slot table entry due left hurt to f) → Adds c (frame_slot table entry due left hurt to f) l (goes_over to l) hurt f
    → Puts (goes_over to l) hurt f (heard_on c past l) (heard_on c (finish_entry port es ∷ past) l) (signs c past l) (signs c (finish_entry port es ∷ past) l)
puts-by c past port es table entry due left hurt to l f is a =
    let s : Slot = frame_slot table entry due left hurt to f
    in record {
      heard_is = finish-heard c past port es s l is ∙ ap (λ (x : List Heard). x ++ heard_on c past l) a.heard;
      signs_is = finish-signs c past port es s l is ∙ ap (λ (x : List Sign). x ++ signs c past l) a.signs;
    }

pub other-host : (to l : Link) (b : Bool) → goes_over to l ≡ b → host_of to ≢ host_of l → b ≡ false
other-host to l true e differ = absurd (differ (over-host to l e))
other-host to l false e differ = refl

pub puts-none : (b hurt : Bool) (f : List ℕ) (heard heard' : List Heard) (signs signs' : List Sign) → b ≡ false → Puts b hurt f heard heard' signs signs' → (heard' ≡ heard) × (signs' ≡ signs)
puts-none true hurt f heard heard' signs signs' e p = cc
puts-none false hurt f heard heard' signs signs' e p = (p.heard_is, p.signs_is)

pub host-frame : (c : Parts) (past : List LogEntry) (port : PortId) (es : List Event) (table entry : ℕ) (due left : List ℕ) (hurt : Bool) (h : ℕ) (m : Message) (ms : List Message) (j x : ℕ)
    → IsSound c → host_of m.link ≡ h → (states : ℕ → HostState) → (states h).rest ≡ m ∷ ms → (states h).count ≡ j
    → open_slot past ≡ Some (frame_slot table entry due left hurt m.link (frame (link_address c m.link) m.bytes j))
    → ((y : ℕ) → HostIs c y (accepted_from past y) (heard_on c past) (signs c past) (states y))
    → HostIs c x (accepted_from past x) (heard_on c (finish_entry port es ∷ past)) (signs c (finish_entry port es ∷ past)) (if h == x then advanced hurt (is_last m.bytes j) (states h).done m ms j else states x)
host-frame c past port es table entry due left hurt h m ms j x sound host states r n is k =
    let f : List ℕ = frame (link_address c m.link) m.bytes j
    in let own : HostIs c h (accepted_from past h) (heard_on c past) (signs c past) (record { done = (states h).done; rest = m ∷ ms; count = j }) = as-state c h (accepted_from past h) (heard_on c past) (signs c past) (states h) (m ∷ ms) j r n (k h)
    in let place : IsPlace c m.link = place-of c h m own.can_go.0
    in elim (eqb_tells h x) [
      | inl same ↦
          rw same.0 (subst (λ (y : ℕ). HostIs c y (accepted_from past y) (heard_on c (finish_entry port es ∷ past)) (signs c (finish_entry port es ∷ past)) (advanced hurt (is_last m.bytes j) (states h).done m ms j)) same.1
          (host-put c h (accepted_from past h) (heard_on c past) (heard_on c (finish_entry port es ∷ past)) (signs c past) (signs c (finish_entry port es ∷ past)) (states h).done m ms j hurt own
          (λ l i. puts-by c past port es table entry due left hurt m.link l f is (frame-adds c table entry due left hurt m.link l f sound place (has-nad c l.node i.address) (frame-is (link_address c m.link) m.bytes j)))))
      | inr differ ↦
          rw differ.0 (host-same c x (accepted_from past x) (heard_on c past) (heard_on c (finish_entry port es ∷ past)) (signs c past) (signs c (finish_entry port es ∷ past)) (states x) (k x)
          (λ l i. puts-none (goes_over m.link l) hurt f (heard_on c past l) (heard_on c (finish_entry port es ∷ past) l) (signs c past l) (signs c (finish_entry port es ∷ past) l)
          (other-host m.link l (goes_over m.link l) refl (λ e. differ.1 (sym host ∙ e ∙ i.host)))
          (puts-by c past port es table entry due left hurt m.link l f is (frame-adds c table entry due left hurt m.link l f sound place (has-nad c l.node i.address) (frame-is (link_address c m.link) m.bytes j)))))
    ]

abbrev pub finish-known : (c : Parts) (past : List LogEntry) (port : PortId) (es : List Event) → IsSound c → (k : Known c past) → (o : Option Slot) → open_slot past ≡ o → SlotIs c (is_sleep_asked past) k.states o → Known c (finish_entry port es ∷ past)
finish-known c past port es sound k None is closed = none-known c past port es is k
finish-known c past port es sound k (Some _) is (served s e) = served-known c past port es s (is_sleep_slot s) is e refl k
finish-known c past port es sound k (Some _) is (other s p q) = quiet-known c past port es s is (λ l i. other-quiet c s l.node l.dir p q) k
finish-known c past port es sound k (Some _) is (master table entry due left hurt line only w) = quiet-known c past port es _ is (λ l i. empty-quiet c table entry (Some 0x3C) due left hurt l.node l.dir) k
finish-known c past port es sound k (Some _) is (slave table entry due left hurt h line only w) = quiet-known c past port es _ is (λ l i. empty-quiet c table entry (Some 0x7D) due left hurt l.node l.dir) k
finish-known c past port es sound k (Some _) is (sleep table entry due left true only) = quiet-known c past port es _ is (λ l i. sleep-hurt c table entry due left l.node l.dir sound (has-nad c l.node i)) k
finish-known c past port es sound k (Some _) is (sleep table entry due left false only) = sleep-known c past port es (sleep_slot table entry due left false) is (λ l i. sleep-good c table entry due left l.node l.dir sound (has-nad c l.node i)) k
finish-known c past port es sound k (Some _) is (carries table entry due left hurt h m ms j only host r n) = record {
  states = λ x. if h == x then advanced hurt (is_last m.bytes j) (k.states h).done m ms j else k.states x;
  hosts = λ x. host-frame c past port es table entry due left hurt h m ms j x sound host k.states r n is k.hosts;
  slot = closed;
}
