-- What the finish of a slot leaves on each link.
use Rattle.std.proofs.Common.{◌≡◌, ◌≢◌, ℕ, ◌≤◌, ◌<◌, Bool, true, false, List, [], ◌∷◌, ◌++◌, length, take, refl, ap, sym, ◌∙◌, subst, arith, inl, inr}
use Rattle.std.specs.Prelude.{Option, Some, None, cond, ◌&&◌, ◌==◌, if◌then◌else◌, is_some, slice_index}
use Rattle.std.specs.List.{cons_option}
use Rattle.std.proofs.lemmas.Bool.Decides.{eqb_tells, nat_tests}
use Rattle.std.proofs.lemmas.Bool.{ne_eqb}
use Rattle.std.proofs.lemmas.List.{take_at, get_or_append_left}
use Rattle.std.specs.Option.{option_map_or, unwrap_or}
use Rattle.lin_frame.specs.Frame.{classic}
use Rattle.lin_transport.specs.Transport.{frame, functional, Heard}
use Rattle.lin_transport.specs.Transport.Heard.{Reset}
use Rattle.lin_parts.specs.declared.parts.Parts.{Parts}
use Rattle.lin_parts.specs.Cluster.{nad}
use Rattle.lin_core.specs.History.{Slot, open_slot, seen_of, header_is, is_sleep_slot}
use Rattle.lin_core.specs.Links.{Link, same_dir, host_of, Sign, link_address, is_down, is_to_all, ear_on, goes_over, message_under, nad_on, put_signs, signs, heard_on, heard_good, diagnostic_header}
use Rattle.lin_core.specs.Links.Sign.{Mark}
use Rattle.lin_core.specs.Slots.{with_classic, sleep_frame}
use Rattle.lin_parts.specs.Sound.{IsSound}
use Rattle.lin_core.specs.declared.log.LogEntry.{LogEntry}
use Rattle.lin_core.specs.declared.port.PortId.{PortId}
use Rattle.lin_core.specs.declared.step.Step.TheVariants.{Finish}
use Rattle.lin_core.specs.declared.event.Event.{Event}
use Rattle.lin_core.specs.declared.reply.Reply.TheVariants.{Done}
use Rattle.lin_core.specs.declared.link.Cause.TheVariants.{Slept}
use Rattle.lin_core.specs.declared.link.Direction.{Direction}
use Rattle.lin_core.specs.declared.link.Direction.TheVariants.{Down, Up}
use Rattle.lin_transport.proofs.Frames.{length-frame, frame-address, and-false}
use Rattle.lin_core.proofs.sendings.Hosts.{eqb-self}
use Rattle.lin_core.proofs.sendings.Moves.{sign_by, heard_by, over-all, over-one, record_of, to-all-is}

abbrev pub finish_entry : PortId → List Event → LogEntry
finish_entry port es = record { port = port; step = Finish; reply = Done es }

-- what a finished slot adds to a link
abbrev pub slot_signs : Parts → Slot → Link → List Sign
slot_signs c s l = cons_option (if is_sleep_slot s then Some (Mark Slept) else None) (put_signs c l (Some (seen_of s)) s)

abbrev pub slot_heard : Parts → Slot → Link → List Heard
slot_heard c s l = (if is_sleep_slot s then Reset ∷ [] else []) ++ option_map_or (heard_good (ear_on c l)) (message_under (diagnostic_header l.dir) s) []

pub mark-some : (b : Bool) → is_some (if b then Some (Mark Slept) else None) ≡ b
mark-some true = refl
mark-some false = refl

pub finish-signs : (c : Parts) (past : List LogEntry) (port : PortId) (es : List Event) (s : Slot) (l : Link) → open_slot past ≡ Some s → signs c (finish_entry port es ∷ past) l ≡ slot_signs c s l ++ signs c past l
finish-signs c past port es s l is = rw is

pub finish-heard : (c : Parts) (past : List LogEntry) (port : PortId) (es : List Event) (s : Slot) (l : Link) → open_slot past ≡ Some s → heard_on c (finish_entry port es ∷ past) l ≡ slot_heard c s l ++ heard_on c past l
finish-heard c past port es s l is = rw (is, mark-some (is_sleep_slot s))

-- nothing is added
pub record IsQuiet (c : Parts) (s : Slot) (l : Link) : Type 0 where
  pub signs : slot_signs c s l ≡ []
  pub heard : slot_heard c s l ≡ []

pub same-cond : {X : Type 0} (b : Bool) (x : X) → cond b x x ≡ x
same-cond true x = refl
same-cond false x = refl

-- a slot of signals
pub other-quiet : (c : Parts) (s : Slot) (node : ℕ) (dir : Direction) → header_is 0x3C s.header ≡ false → header_is 0x7D s.header ≡ false → IsQuiet c s (record_of node dir)
other-quiet c s node Down a b = record { signs = rw (a, same-cond s.service); heard = rw (a, same-cond s.service) }
other-quiet c s node Up a b = record { signs = rw (a, b, same-cond s.service); heard = rw (a, b, same-cond s.service) }

abbrev pub slot_of : ℕ → ℕ → Option ℕ → List ℕ → List (ℕ × List ℕ) → List ℕ → Bool → Slot
slot_of table entry header due puts left hurt = record { table = table; entry = entry; header = header; service = false; due = due; puts = puts; left = left; hurt = hurt }

-- a slot in which nothing was put
pub empty-quiet : (c : Parts) (table entry : ℕ) (header : Option ℕ) (due left : List ℕ) (hurt : Bool) (node : ℕ) (dir : Direction) → IsQuiet c (slot_of table entry header due [] left hurt) (record_of node dir)
empty-quiet c table entry None due left hurt node Down = record { signs = refl; heard = refl }
empty-quiet c table entry None due left hurt node Up = record { signs = refl; heard = refl }
empty-quiet c table entry (Some h) due left hurt node Down = record { signs = rw (same-cond (h == 0x3C), same-cond (h == 0x3C)); heard = rw (same-cond (h == 0x3C)) }
empty-quiet c table entry (Some h) due left hurt node Up = record { signs = rw (same-cond (h == 0x3C), same-cond (h == 0x7D)); heard = rw (same-cond (h == 0x3C), same-cond (h == 0x7D)) }

-- the address of a node
pub record HasNad (c : Parts) (node : ℕ) : Type 0 where
  pub n : ℕ
  pub is : nad c node ≡ Some n

pub value-of : (o : Option ℕ) → is_some o ≡ true → (n : ℕ) × (o ≡ Some n)
value-of None h = cc
value-of (Some n) h = (n, refl)

-- a slot of the sleep frame
abbrev pub sleep_slot : ℕ → ℕ → List ℕ → List ℕ → Bool → Slot
sleep_slot table entry due left hurt = slot_of table entry (Some 0x3C) due ((0, with_classic sleep_frame) ∷ []) left hurt

pub zero-not : (n : ℕ) → 1 ≤ n → (0 == n) ≡ false
zero-not n h = grind (arith, nat_tests)

pub sleep-hurt : (c : Parts) (table entry : ℕ) (due left : List ℕ) (node : ℕ) (dir : Direction) → IsSound c → HasNad c node → IsQuiet c (sleep_slot table entry due left true) (record_of node dir)
sleep-hurt c table entry due left node Down sound a = record { signs = rw (a.is, zero-not a.n (sound.some node a.n a.is)); heard = refl }
sleep-hurt c table entry due left node Up sound a = record { signs = refl; heard = refl }

pub record Sleeps (c : Parts) (s : Slot) (l : Link) : Type 0 where
  pub signs : slot_signs c s l ≡ Mark Slept ∷ []
  pub heard : slot_heard c s l ≡ Reset ∷ []

pub sleep-good : (c : Parts) (table entry : ℕ) (due left : List ℕ) (node : ℕ) (dir : Direction) → IsSound c → HasNad c node → Sleeps c (sleep_slot table entry due left false) (record_of node dir)
sleep-good c table entry due left node Down sound a = record { signs = rw (a.is, zero-not a.n (sound.some node a.n a.is)); heard = rw (a.is, zero-not a.n (sound.some node a.n a.is)) }
sleep-good c table entry due left node Up sound a = record { signs = refl; heard = refl }

-- a slot for a service adds nothing but its mark
pub served-quiet : (c : Parts) (s : Slot) (l : Link) → s.service ≡ true → is_sleep_slot s ≡ false → IsQuiet c s l
served-quiet c s l served awake = record { signs = rw (served, awake); heard = rw (served, awake) }

pub served-sleeps : (c : Parts) (s : Slot) (l : Link) → s.service ≡ true → is_sleep_slot s ≡ true → Sleeps c s l
served-sleeps c s l served asleep = record { signs = rw (served, asleep); heard = rw (served, asleep) }

-- a slot of a frame on a link
abbrev pub frame_slot : ℕ → ℕ → List ℕ → List ℕ → Bool → Link → List ℕ → Slot
frame_slot table entry due left hurt l f = slot_of table entry (Some (diagnostic_header l.dir)) due ((host_of l, with_classic f) ∷ []) left hurt

pub record IsFrameOf (n : ℕ) (f : List ℕ) : Type 0 where
  pub address : slice_index (with_classic f) 0 ≡ n
  pub data_is : take 8 (with_classic f) ≡ f

pub frame-is : (n : ℕ) (m : List ℕ) (k : ℕ) → IsFrameOf n (frame n m k)
frame-is n m k =
    let l : length (frame n m k) ≡ 8 = length-frame n m k
    in record {
      address = get_or_append_left (frame n m k) (classic (frame n m k) ∷ []) 0 0 (omega arith) ∙ frame-address n m k;
      data_is = take_at (frame n m k) (classic (frame n m k) ∷ []) 8 l;
    }

pub record Adds (c : Parts) (s : Slot) (l : Link) (b hurt : Bool) (f : List ℕ) : Type 0 where
  pub signs : slot_signs c s l ≡ (if b then sign_by hurt f ∷ [] else [])
  pub heard : slot_heard c s l ≡ (if b then heard_by hurt f else [])

pub not-all : (n : ℕ) → n ≤ 125 → (n == functional) ≡ false
not-all n most = ne_eqb n functional (λ z. let bad : n ≡ 126 = z in omega arith)

pub frame-adds-there : (c : Parts) (table entry : ℕ) (due left : List ℕ) (hurt : Bool) (a : ℕ) (d : Direction) (f : List ℕ) (n : ℕ) → nad c a ≡ Some n → 1 ≤ n → n ≤ 125 → IsFrameOf n f
    → Adds c (frame_slot table entry due left hurt (record_of a d) f) (record_of a d) true hurt f
frame-adds-there c table entry due left true a Down f n e p q i = record { signs = rw (e, i.address, not-all n q, eqb-self n, i.data_is); heard = refl }
frame-adds-there c table entry due left false a Down f n e p q i = record { signs = rw (e, i.address, ne_eqb n 0 (λ z. omega arith), not-all n q, eqb-self n, i.data_is); heard = rw (e, i.address, ne_eqb n 0 (λ z. omega arith), not-all n q, eqb-self n, i.data_is) }
frame-adds-there c table entry due left true a Up f n e p q i = record { signs = rw (eqb-self a, i.data_is); heard = refl }
frame-adds-there c table entry due left false a Up f n e p q i = record { signs = rw (eqb-self a, i.data_is); heard = rw (e, i.address, eqb-self n, i.data_is) }

-- an address is the one node's
pub other-nad : (c : Parts) (a b n k : ℕ) → IsSound c → nad c a ≡ Some n → nad c b ≡ Some k → a ≢ b → (n == k) ≡ false
other-nad c a b n k sound p q differ = ne_eqb n k (λ e. differ (sound.apart a b k (p ∙ ap (λ (x : ℕ). Some x) e) q))

pub frame-adds-elsewhere : (c : Parts) (table entry : ℕ) (due left : List ℕ) (hurt : Bool) (a b : ℕ) (d : Direction) (f : List ℕ) (n k : ℕ) → IsSound c → nad c a ≡ Some n → nad c b ≡ Some k → a ≢ b → IsFrameOf n f
    → Adds c (frame_slot table entry due left hurt (record_of a d) f) (record_of b d) false hurt f
frame-adds-elsewhere c table entry due left true a b Down f n k sound p q differ i = record { signs = rw (q, i.address, not-all n (sound.most a n p), other-nad c a b n k sound p q differ); heard = refl }
frame-adds-elsewhere c table entry due left false a b Down f n k sound p q differ i =
    let some : 1 ≤ n = sound.some a n p
    in let most : n ≤ 125 = sound.most a n p
    in record { signs = rw (q, i.address, ne_eqb n 0 (λ z. omega arith), not-all n most, other-nad c a b n k sound p q differ); heard = rw (q, i.address, ne_eqb n 0 (λ z. omega arith), not-all n most, other-nad c a b n k sound p q differ) }
frame-adds-elsewhere c table entry due left true a b Up f n k sound p q differ i = record { signs = rw (ne_eqb a b differ); heard = refl }
frame-adds-elsewhere c table entry due left false a b Up f n k sound p q differ i = record { signs = rw (ne_eqb a b differ); heard = rw (q, i.address, other-nad c a b n k sound p q differ) }

pub frame-adds-same : (c : Parts) (table entry : ℕ) (due left : List ℕ) (hurt : Bool) (a b : ℕ) (d : Direction) (f : List ℕ) (n k : ℕ) → IsSound c → nad c a ≡ Some n → nad c b ≡ Some k → IsFrameOf n f
    → Adds c (frame_slot table entry due left hurt (record_of a d) f) (record_of b d) (a == b) hurt f
frame-adds-same c table entry due left hurt a b d f n k sound p q i = elim (eqb_tells a b) [
  | inl same ↦ rw same.0 (subst (λ (x : ℕ). Adds c (frame_slot table entry due left hurt (record_of a d) f) (record_of x d) true hurt f) same.1 (frame-adds-there c table entry due left hurt a d f n p (sound.some a n p) (sound.most a n p) i))
  | inr differ ↦ rw differ.0 (frame-adds-elsewhere c table entry due left hurt a b d f n k sound p q differ.1 i)
]

pub and-true : (b : Bool) → (b && true) ≡ b
and-true true = refl
and-true false = refl

pub frame-adds-by : (c : Parts) (table entry : ℕ) (due left : List ℕ) (hurt : Bool) (a b : ℕ) (d e : Direction) (f : List ℕ) (n k : ℕ) → IsSound c → nad c a ≡ Some n → nad c b ≡ Some k → IsFrameOf n f
    → Adds c (frame_slot table entry due left hurt (record_of a d) f) (record_of b e) (a == b && same_dir d e) hurt f
frame-adds-by c table entry due left hurt a b Down Down f n k sound p q i = rw (and-true (a == b)) (frame-adds-same c table entry due left hurt a b Down f n k sound p q i)
frame-adds-by c table entry due left hurt a b Up Up f n k sound p q i = rw (and-true (a == b)) (frame-adds-same c table entry due left hurt a b Up f n k sound p q i)
frame-adds-by c table entry due left true a b Down Up f n k sound p q i = rw (and-false (a == b)) (record { signs = refl; heard = refl })
frame-adds-by c table entry due left false a b Down Up f n k sound p q i =
    let some : 1 ≤ n = sound.some a n p
    in rw (and-false (a == b)) (record { signs = rw (i.address, ne_eqb n 0 (λ z. omega arith)); heard = rw (i.address, ne_eqb n 0 (λ z. omega arith)) })
frame-adds-by c table entry due left true a b Up Down f n k sound p q i = rw (and-false (a == b)) (record { signs = refl; heard = refl })
frame-adds-by c table entry due left false a b Up Down f n k sound p q i = rw (and-false (a == b)) (record { signs = refl; heard = refl })

pub nad-is : (c : Parts) (l : Link) (n : ℕ) → nad c l.node ≡ Some n → nad_on c l ≡ n
nad-is c l n e = ap (λ (o : Option ℕ). unwrap_or o 0) e

-- where a message goes: to all responders, or to one that has an address
abbrev pub IsPlace : Parts → Link → Type 0
IsPlace c to = is_to_all to ≡ false → HasNad c to.node

some-by : (c : Parts) (to : Link) (b : Bool) → is_to_all to ≡ b → IsSound c → IsPlace c to → 1 ≤ link_address c to
some-by c to true all sound p = rw all (omega arith)
some-by c to false one sound p = let at : HasNad c to.node = p one in rw (one, nad-is c to at.n at.is) (sound.some to.node at.n at.is)

pub some-address : (c : Parts) (to : Link) → IsSound c → IsPlace c to → 1 ≤ link_address c to
some-address c to sound p = some-by c to (is_to_all to) refl sound p

-- a link of a node that has an address goes to it alone
pub one-by : (c : Parts) (node : ℕ) (dir : Direction) → IsSound c → is_some (nad c node) ≡ true → is_to_all (record_of node dir) ≡ false
one-by c node Down sound a = let v = value-of (nad c node) a in let few : node < 16 = sound.few node v.0 v.1 in ne_eqb node functional (λ z. let bad : node ≡ 126 = z in omega arith)
one-by c node Up sound a = refl

-- a frame to all
frame-adds-all : (c : Parts) (table entry : ℕ) (due left : List ℕ) (hurt : Bool) (b : ℕ) (e : Direction) (f : List ℕ) (k : ℕ) → nad c b ≡ Some k → IsFrameOf functional f
    → Adds c (frame_slot table entry due left hurt (record_of functional Down) f) (record_of b e) (is_down e) hurt f
frame-adds-all c table entry due left true b Down f k q i = record { signs = rw (q, i.address, i.data_is); heard = refl }
frame-adds-all c table entry due left false b Down f k q i = record { signs = rw (q, i.address, i.data_is); heard = rw (q, i.address, i.data_is) }
frame-adds-all c table entry due left true b Up f k q i = record { signs = refl; heard = refl }
frame-adds-all c table entry due left false b Up f k q i = record { signs = rw i.address; heard = rw i.address }

adds-to : (c : Parts) (table entry : ℕ) (due left : List ℕ) (hurt : Bool) (to l : Link) (f : List ℕ) (b : Bool) → is_to_all to ≡ b → IsSound c → IsPlace c to → HasNad c l.node → IsFrameOf (link_address c to) f
    → Adds c (frame_slot table entry due left hurt to f) l (goes_over to l) hurt f
adds-to c table entry due left hurt to l f true all sound p q i =
    subst (λ (x : Link). IsFrameOf (link_address c x) f → Adds c (frame_slot table entry due left hurt x f) l (goes_over x l) hurt f) (sym (to-all-is to.node to.dir all))
    (λ j. rw (over-all l.node l.dir) (frame-adds-all c table entry due left hurt l.node l.dir f q.n q.is j)) i
adds-to c table entry due left hurt to l f false one sound p q i =
    let at : HasNad c to.node = p one
    in rw (over-one to l one) (frame-adds-by c table entry due left hurt to.node l.node to.dir l.dir f at.n q.n sound at.is q.is (rw (one, nad-is c to at.n at.is) at i))

pub frame-adds : (c : Parts) (table entry : ℕ) (due left : List ℕ) (hurt : Bool) (to l : Link) (f : List ℕ) → IsSound c → IsPlace c to → HasNad c l.node → IsFrameOf (link_address c to) f
    → Adds c (frame_slot table entry due left hurt to f) l (goes_over to l) hurt f
frame-adds c table entry due left hurt to l f sound p q i = adds-to c table entry due left hurt to l f (is_to_all to) refl sound p q i
