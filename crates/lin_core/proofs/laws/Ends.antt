-- The laws of the headline, from what is known of each history.
use Rattle.std.proofs.Common.{◌≡◌, ℕ, zero, suc, ◌<◌, Bool, true, false, List, [], ◌∷◌, ◌++◌, length, map, refl, ap, sym, ◌∙◌, subst, arith, inl, inr}
use Rattle.std.specs.Prelude.{Option, Some, None, cond, ◌&&◌, ◌==◌, if◌then◌else◌, is_some, filter, reverse}
use Rattle.std.proofs.lemmas.Bool.Decides.{eqb_tells, nat_tests}
use Rattle.std.proofs.lemmas.List.{append-nil, map-append}
use Rattle.lin_frame.specs.Words.{numbers}
use Rattle.lin_transport.specs.Law.{Addressed}
use Rattle.lin_transport.specs.Transport.{frame, frame_count, functional, Ear, Heard, CanSend}
use Rattle.lin_parts.specs.declared.parts.Parts.{Parts}
use Rattle.lin_parts.specs.Cluster.{nad}
use Rattle.lin_core.specs.History.{Slot, open_slot, header_is, is_sleep_asked}
use Rattle.lin_core.specs.Links.{Link, same_dir, Message, host_of, accepted_from, Sign, Fate, link_address, ear_on, frames_to, goes_over, is_down, is_to_all, put_on, signs, heard_on, blocks, blocks_of, messages_on}
use Rattle.lin_core.specs.Links.Sign.{Put as PutSign}
use Rattle.lin_parts.specs.Sound.{IsSound}
use Rattle.lin_core.specs.declared.log.LogEntry.{LogEntry}
use Rattle.lin_core.specs.declared.port.PortId.{PortId}
use Rattle.lin_core.specs.declared.step.Step.{Step}
use Rattle.lin_core.specs.declared.link.Direction.{Direction}
use Rattle.lin_core.specs.declared.link.Direction.TheVariants.{Down, Up}
use Rattle.lin_transport.proofs.Frames.{and-false, first-cons, frame-begins, frame-continues}
use Rattle.lin_core.proofs.sendings.Hosts.{HostState, HostIs, IsLink, addressed, on_link, outcome_on, part, message_of, on, HasBlocks, tail_of, track-blocks, Track}
use Rattle.lin_core.proofs.sendings.Moves.{record_of, over-all, over-one, to-all-is, count-less, part-busy, busy_if}
use Rattle.lin_core.proofs.links.Finishes.{same-cond, sleep_slot, frame_slot, HasNad, IsPlace, frame-is, IsFrameOf, not-all, other-nad, zero-not, nad-is}
use Rattle.std.specs.List.{cons_option}
use Rattle.std.proofs.lemmas.List.Elements.{filter-append}
use Rattle.lin_core.specs.Runs.{history}
use Rattle.lin_core.specs.Law.{ReadsSent, InOrder}
use Rattle.lin_core.proofs.links.Fates.{good_sign, goods, goods-wait, goods-prefix, goods-unknown, more-prefix}
use Rattle.lin_core.proofs.links.Tracks.{in_last-append}
use Rattle.lin_core.proofs.steps.Known.{SlotIs, Known, as-state, has-nad, other-host, place-of}
use Rattle.lin_core.proofs.steps.Known.SlotIs.{closed, served, other, master, slave, sleep, carries}
use Rattle.lin_core.proofs.steps.Steps.{history-known, blocks-closed, blocks-empty}
use Rattle.lin_core.proofs.links.Results.{tails_with, IsPart, Waits, Holds, frames_of_each, sent-are, track-reads, in-order}

-- the block of the message that is begun
abbrev pub begun_block : Parts → List Message → ℕ → List Sign
begun_block c [] k = []
begun_block c (m ∷ ms) k = goods (link_address c m.link) m.bytes k

pub tails-cons : (b : List Sign) (s : Sign) (d : List Sign) (m : Message) (ms : List Message) (l : Link) → b ≡ s ∷ d → tails_with b (m ∷ ms) l ≡ (if on l m then b ∷ [] else [])
tails-cons b s d m ms l e = subst (λ (x : List Sign). tails_with x (m ∷ ms) l ≡ (if on l m then x ∷ [] else [])) (sym e) refl

pub goods-cons : (n : ℕ) (m : List ℕ) (j : ℕ) → goods n m (suc j) ≡ good_sign (frame n m 0) ∷ map good_sign (map (frame n m) (map suc (numbers j)))
goods-cons n m j = ap (map good_sign) (first-cons n m j)

pub tail-same-by : (c : Parts) (m : Message) (j : ℕ) (q : Bool)
    → tail_of (if q then Some (addressed c m, j) else None) ≡ (if q then goods (link_address c m.link) m.bytes (suc j) ∷ [] else [])
tail-same-by c m j true = refl
tail-same-by c m j false = refl

pub tails-same : (c : Parts) (rest : List Message) (k : ℕ) (l : Link) → tail_of (part c rest k l) ≡ tails_with (begun_block c rest k) rest l
tails-same c [] zero l = refl
tails-same c [] (suc j) l = refl
tails-same c (m ∷ ms) zero l = refl
tails-same c (m ∷ ms) (suc j) l = tail-same-by c m j (on l m) ∙ sym (tails-cons (goods (link_address c m.link) m.bytes (suc j)) (good_sign (frame (link_address c m.link) m.bytes 0)) (map good_sign (map (frame (link_address c m.link) m.bytes) (map suc (numbers j)))) m ms l (goods-cons (link_address c m.link) m.bytes j))

pub begun-waits : (c : Parts) (h : ℕ) (accepted : List Message) (heard : Link → List Heard) (signs : Link → List Sign) (done : List (Message × Fate)) (rest : List Message) (k : ℕ)
    → HostIs c h accepted heard signs (record { done = done; rest = rest; count = k }) → Waits c (begun_block c rest k) rest
begun-waits c h accepted heard signs done [] k i = tt
begun-waits c h accepted heard signs done (m ∷ ms) k i =
    let less : k < frame_count (length m.bytes) = count-less c h accepted heard signs done m ms k i
    in record { waiting = goods-wait (link_address c m.link) m.bytes k less; begins = goods-prefix (link_address c m.link) m.bytes k (omega arith) }

-- a host on whose links nothing is put in the open slot
pub plain-held : (c : Parts) (h : ℕ) (blocks : Link → List (List Sign)) (accepted : List Message) (heard : Link → List Heard) (signs : Link → List Sign) (s : HostState)
    → ((l : Link) → IsLink c h l → blocks l ≡ blocks_of (signs l)) → HostIs c h accepted heard signs s → Holds c h blocks accepted s.done s.rest (begun_block c s.rest s.count)
plain-held c h blocks accepted heard signs s e i = record {
  accepted_is = i.accepted_is;
  are_done = i.are_done;
  can_go = i.can_go;
  links = record {
    at = λ l a. rw (e l a) (subst (λ (t : List (List Sign)). HasBlocks (on_link c l s.done) (blocks_of (signs l)) t) (tails-same c s.rest s.count l)
        (track-blocks (ear_on c l) (signs l) (on_link c l s.done) (part c s.rest s.count l) (i.links l a).track));
  };
  waits = begun-waits c h accepted heard signs s.done s.rest s.count i;
}

-- what is put on the links in the slot of a frame
pub put-frame-by : (c : Parts) (table entry : ℕ) (due left : List ℕ) (hurt : Bool) (a b : ℕ) (d e : Direction) (f : List ℕ) (n k : ℕ) → IsSound c → nad c a ≡ Some n → nad c b ≡ Some k → IsFrameOf n f
    → put_on c (record_of b e) (frame_slot table entry due left hurt (record_of a d) f) ≡ (if a == b && same_dir d e then f ∷ [] else [])
put-frame-by c table entry due left hurt a b Down Down f n k sound p q i = elim (eqb_tells a b) [
  | inl same ↦ let nk : (n == k) ≡ true = let z : Some n ≡ Some k = sym p ∙ ap (nad c) same.1 ∙ q in let y : n ≡ k = cc in grind (arith, nat_tests, y) in rw (q, i.address, not-all n (sound.most a n p), nk, same.0, i.data_is)
  | inr differ ↦ rw (q, i.address, not-all n (sound.most a n p), other-nad c a b n k sound p q differ.1, differ.0)
]
put-frame-by c table entry due left hurt a b Up Up f n k sound p q i = elim (eqb_tells a b) [
  | inl same ↦ rw (same.0, i.data_is)
  | inr differ ↦ rw differ.0
]
put-frame-by c table entry due left hurt a b Down Up f n k sound p q i = rw (and-false (a == b))
put-frame-by c table entry due left hurt a b Up Down f n k sound p q i = rw (and-false (a == b))

put-frame-all : (c : Parts) (table entry : ℕ) (due left : List ℕ) (hurt : Bool) (b : ℕ) (e : Direction) (f : List ℕ) (k : ℕ) → nad c b ≡ Some k → IsFrameOf functional f
    → put_on c (record_of b e) (frame_slot table entry due left hurt (record_of functional Down) f) ≡ (if is_down e then f ∷ [] else [])
put-frame-all c table entry due left hurt b Down f k q i = rw (q, i.address, i.data_is)
put-frame-all c table entry due left hurt b Up f k q i = refl

put-frame-to : (c : Parts) (table entry : ℕ) (due left : List ℕ) (hurt : Bool) (to l : Link) (f : List ℕ) (b : Bool) → is_to_all to ≡ b → IsSound c → IsPlace c to → HasNad c l.node → IsFrameOf (link_address c to) f
    → put_on c l (frame_slot table entry due left hurt to f) ≡ (if goes_over to l then f ∷ [] else [])
put-frame-to c table entry due left hurt to l f true all sound p q i =
    subst (λ (x : Link). IsFrameOf (link_address c x) f → put_on c l (frame_slot table entry due left hurt x f) ≡ (if goes_over x l then f ∷ [] else [])) (sym (to-all-is to.node to.dir all))
    (λ j. rw (over-all l.node l.dir) (put-frame-all c table entry due left hurt l.node l.dir f q.n q.is j)) i
put-frame-to c table entry due left hurt to l f false one sound p q i =
    let at : HasNad c to.node = p one
    in rw (over-one to l one) (put-frame-by c table entry due left hurt to.node l.node to.dir l.dir f at.n q.n sound at.is q.is (rw (one, nad-is c to at.n at.is) at i))

pub put-frame : (c : Parts) (table entry : ℕ) (due left : List ℕ) (hurt : Bool) (to l : Link) (f : List ℕ) → IsSound c → IsPlace c to → HasNad c l.node → IsFrameOf (link_address c to) f
    → put_on c l (frame_slot table entry due left hurt to f) ≡ (if goes_over to l then f ∷ [] else [])
put-frame c table entry due left hurt to l f sound p q i = put-frame-to c table entry due left hurt to l f (is_to_all to) refl sound p q i

pub put-sleep : (c : Parts) (table entry : ℕ) (due left : List ℕ) (hurt : Bool) (node : ℕ) (dir : Direction) → IsSound c → HasNad c node → put_on c (record_of node dir) (sleep_slot table entry due left hurt) ≡ []
put-sleep c table entry due left hurt node Down sound a = rw (a.is, zero-not a.n (sound.some node a.n a.is))
put-sleep c table entry due left hurt node Up sound a = refl

pub put-other : (c : Parts) (s : Slot) (node : ℕ) (dir : Direction) → header_is 0x3C s.header ≡ false → header_is 0x7D s.header ≡ false → put_on c (record_of node dir) s ≡ []
put-other c s node Down p q = rw (p, same-cond s.service)
put-other c s node Up p q = rw (q, same-cond s.service)

pub put-served : (c : Parts) (s : Slot) (l : Link) → s.service ≡ true → put_on c l s ≡ []
put-served c s l e = rw e

-- a link with the frame of the open slot
abbrev pub sign_if : Bool → List ℕ → List Sign → List Sign
sign_if q f signs = cons_option (if q then Some (PutSign f None) else None) signs

pub if-map : (q : Bool) (f : List ℕ) (signs : List Sign) → blocks_of (reverse (map (λ g. PutSign g None) (if q then f ∷ [] else [])) ++ signs) ≡ blocks_of (sign_if q f signs)
if-map true f signs = refl
if-map false f signs = refl

pub blocks-carried : (c : Parts) (past : List LogEntry) (table entry : ℕ) (due left : List ℕ) (hurt : Bool) (to l : Link) (f : List ℕ) → IsSound c → IsPlace c to → HasNad c l.node → IsFrameOf (link_address c to) f
    → open_slot past ≡ Some (frame_slot table entry due left hurt to f) → blocks c past l ≡ blocks_of (sign_if (goes_over to l) f (signs c past l))
blocks-carried c past table entry due left hurt to l f sound p q i is = rw (is, put-frame c table entry due left hurt to l f sound p q i) (if-map (goes_over to l) f (signs c past l))

-- the block with the frame of the open slot
abbrev pub put_block : Parts → Message → ℕ → List Sign
put_block c m k = goods (link_address c m.link) m.bytes k ++ PutSign (frame (link_address c m.link) m.bytes k) None ∷ []

pub put-cons : (c : Parts) (m : Message) (k : ℕ) → (s : Sign) × (d : List Sign) × (put_block c m k ≡ s ∷ d)
put-cons c m zero = (_, _, refl)
put-cons c m (suc j) = (_, _, ap (λ (x : List Sign). x ++ PutSign (frame (link_address c m.link) m.bytes (suc j)) None ∷ []) (goods-cons (link_address c m.link) m.bytes j))

pub link-carried : (e : Ear) (signs : List Sign) (ps : List (Addressed × Fate)) (m : Addressed) (k : ℕ) (q : Bool) → CanSend m.bytes → Track e signs ps (busy_if q m k)
    → HasBlocks ps (blocks_of (sign_if q (frame m.nad m.bytes k) signs)) (if q then (goods m.nad m.bytes k ++ PutSign (frame m.nad m.bytes k) None ∷ []) ∷ [] else [])
link-carried e signs ps m zero true can t = record { front = blocks_of signs; is = rw (frame-begins m.nad m.bytes can); settled = t.settled }
link-carried e signs ps m (suc j) true can t = record { front = t.earlier; is = rw (frame-continues m.nad m.bytes j, t.blocks) (in_last-append t.earlier (goods m.nad m.bytes (suc j)) (PutSign (frame m.nad m.bytes (suc j)) None)); settled = t.settled }
link-carried e signs ps m zero false can t = record { front = blocks_of signs; is = sym (append-nil (blocks_of signs)); settled = t.settled }
link-carried e signs ps m (suc j) false can t = record { front = blocks_of signs; is = sym (append-nil (blocks_of signs)); settled = t.settled }

-- the host whose frame is put in the open slot
pub carried-held : (c : Parts) (past : List LogEntry) (table entry : ℕ) (due left : List ℕ) (hurt : Bool) (h : ℕ) (m : Message) (ms : List Message) (k : ℕ) (done : List (Message × Fate)) → IsSound c
    → HostIs c h (accepted_from past h) (heard_on c past) (signs c past) (record { done = done; rest = m ∷ ms; count = k })
    → open_slot past ≡ Some (frame_slot table entry due left hurt m.link (frame (link_address c m.link) m.bytes k))
    → Holds c h (blocks c past) (accepted_from past h) done (m ∷ ms) (put_block c m k)
carried-held c past table entry due left hurt h m ms k done sound i is =
    let less : k < frame_count (length m.bytes) = count-less c h (accepted_from past h) (heard_on c past) (signs c past) done m ms k i
    in let cons = put-cons c m k
    in record {
      accepted_is = i.accepted_is;
      are_done = i.are_done;
      can_go = i.can_go;
      links = record {
        at = λ l a.
            let t : Track (ear_on c l) (signs c past l) (on_link c l done) (busy_if (on l m) (addressed c m) k)
            = subst (λ (o : Option (Addressed × ℕ)). Track (ear_on c l) (signs c past l) (on_link c l done) o) (part-busy c m ms k l (on l m) refl) (i.links l a).track
            in rw (
              blocks-carried c past table entry due left hurt m.link l (frame (link_address c m.link) m.bytes k) sound (place-of c h m i.can_go.0) (has-nad c l.node a.address) (frame-is (link_address c m.link) m.bytes k) is,
              tails-cons (put_block c m k) cons.0 cons.1 m ms l cons.2,
            )
            (link-carried (ear_on c l) (signs c past l) (on_link c l done) (addressed c m) k (on l m) i.can_go.0.can t);
      };
      waits = record { waiting = goods-unknown (link_address c m.link) m.bytes k (frame (link_address c m.link) m.bytes k); begins = more-prefix (link_address c m.link) m.bytes k None less };
    }

pub record Held (c : Parts) (past : List LogEntry) (h : ℕ) (done : List (Message × Fate)) : Type 0 where
  pub rest : List Message
  pub block : List Sign
  pub holds : Holds c h (blocks c past) (accepted_from past h) done rest block

pub plainly : (c : Parts) (past : List LogEntry) (h : ℕ) (k : Known c past) → ((l : Link) → IsLink c h l → blocks c past l ≡ blocks_of (signs c past l)) → Held c past h (k.states h).done
plainly c past h k e = record { rest = (k.states h).rest; block = begun_block c (k.states h).rest (k.states h).count; holds = plain-held c h (blocks c past) (accepted_from past h) (heard_on c past) (signs c past) (k.states h) e (k.hosts h) }

pub put-no : (c : Parts) (past : List LogEntry) (l : Link) (s : Slot) → open_slot past ≡ Some s → put_on c l s ≡ [] → blocks c past l ≡ blocks_of (signs c past l)
put-no c past l s is none = rw (is, none)

pub sign-none : (q : Bool) (f : List ℕ) (signs : List Sign) → q ≡ false → sign_if q f signs ≡ signs
sign-none true f signs e = cc
sign-none false f signs e = refl

pub held : (c : Parts) (past : List LogEntry) (h : ℕ) → IsSound c → (k : Known c past) → (o : Option Slot) → open_slot past ≡ o → SlotIs c (is_sleep_asked past) k.states o → Held c past h (k.states h).done
held c past h sound k None is closed = plainly c past h k (λ l i. blocks-closed c past l is)
held c past h sound k (Some _) is (served s e) = plainly c past h k (λ l i. put-no c past l s is (put-served c s l e))
held c past h sound k (Some _) is (other s p q) = plainly c past h k (λ l i. put-no c past l s is (put-other c s l.node l.dir p q))
held c past h sound k (Some _) is (master table entry due left hurt line only w) = plainly c past h k (λ l i. blocks-empty c past l table entry (Some 0x3C) due left hurt is)
held c past h sound k (Some _) is (slave table entry due left hurt x line only w) = plainly c past h k (λ l i. blocks-empty c past l table entry (Some 0x7D) due left hurt is)
held c past h sound k (Some _) is (sleep table entry due left hurt only) = plainly c past h k (λ l i. put-no c past l _ is (put-sleep c table entry due left hurt l.node l.dir sound (has-nad c l.node i.address)))
held c past h sound k (Some _) is (carries table entry due left hurt x m ms j only host r n) =
    let own : HostIs c x (accepted_from past x) (heard_on c past) (signs c past) (record { done = (k.states x).done; rest = m ∷ ms; count = j }) = as-state c x (accepted_from past x) (heard_on c past) (signs c past) (k.states x) (m ∷ ms) j r n (k.hosts x)
    in let f : List ℕ = frame (link_address c m.link) m.bytes j
    in elim (eqb_tells x h) [
      | inl same ↦ subst (λ (y : ℕ). Held c past y (k.states y).done) same.1 (record { rest = m ∷ ms; block = put_block c m j; holds = carried-held c past table entry due left hurt x m ms j (k.states x).done sound own is })
      | inr differ ↦ plainly c past h k (λ l i.
          blocks-carried c past table entry due left hurt m.link l f sound (place-of c x m own.can_go.0) (has-nad c l.node i.address) (frame-is (link_address c m.link) m.bytes j) is
          ∙ ap blocks_of (sign-none (goes_over m.link l) f (signs c past l) (other-host m.link l (goes_over m.link l) refl (λ e. differ.1 (sym host ∙ e ∙ i.host)))))
    ]

pub held-now : (c : Parts) (past : List LogEntry) (h : ℕ) → IsSound c → (k : Known c past) → Held c past h (k.states h).done
held-now c past h sound k = held c past h sound k (open_slot past) refl k.slot

-- the receiver of a link reads what was sent over it
pub known-reads : (c : Parts) (past : List LogEntry) (l : Link) → IsSound c → is_some (nad c l.node) ≡ true → Known c past → ReadsSent c past l
known-reads c past l sound a k =
    let h : ℕ = host_of l
    in let i : IsLink c (host_of l) l = record { host = refl; address = a }
    in let held_h : Held c past (host_of l) (k.states (host_of l)).done = held-now c past (host_of l) sound k
    in let s : HostState = k.states (host_of l)
    in track-reads (ear_on c l) (heard_on c past l) (signs c past l) (on_link c l s.done) (part c s.rest s.count l) ((k.hosts (host_of l)).links l i)
    ∙ sym (sent-are c (host_of l) (blocks c past) (accepted_from past (host_of l)) s.done held_h.rest held_h.block l held_h.holds)

-- the blocks of a link are in order
pub frames-if : (c : Parts) (q : Bool) (p : Message × Fate) (ms : List Message) (ps : List (Message × Fate)) → map (frames_to c) ms ≡ frames_of_each (map (outcome_on c) ps)
    → map (frames_to c) (cond q (p.0 ∷ ms) ms) ≡ frames_of_each (map (outcome_on c) (cond q (p ∷ ps) ps))
frames-if c true p ms ps e = ap (λ (x : List (List (List ℕ))). frames_to c p.0 ∷ x) e
frames-if c false p ms ps e = e

pub frames-on : (c : Parts) (l : Link) (ps : List (Message × Fate)) → map (frames_to c) (filter (on l) (map message_of ps)) ≡ frames_of_each (on_link c l ps)
frames-on c l [] = refl
frames-on c l (p ∷ ps) = frames-if c (on l p.0) p (filter (on l) (map message_of ps)) (filter (λ (q : Message × Fate). on l q.0) ps) (frames-on c l ps)

pub none-order : (fss : List (List (List ℕ))) → InOrder fss []
none-order [] = tt
none-order (fs ∷ fss) = tt

pub tail-order : (c : Parts) (l : Link) (m : Message) (ms : List Message) (b : List Sign) (q : Bool) → IsPart c b m
    → InOrder (map (frames_to c) (cond q (m ∷ filter (on l) ms) (filter (on l) ms))) (if q then b ∷ [] else [])
tail-order c l m ms b true w = w.begins
tail-order c l m ms b false w = none-order (map (frames_to c) (filter (on l) ms))

pub tails-order : (c : Parts) (l : Link) (rest : List Message) (b : List Sign) → Waits c b rest → InOrder (map (frames_to c) (filter (on l) rest)) (tails_with b rest l)
tails-order c l [] b w = tt
tails-order c l (m ∷ ms) [] w = none-order (map (frames_to c) (filter (on l) (m ∷ ms)))
tails-order c l (m ∷ ms) (s ∷ b) w = tail-order c l m ms (s ∷ b) (on l m) w

pub known-order : (c : Parts) (past : List LogEntry) (l : Link) → IsSound c → is_some (nad c l.node) ≡ true → Known c past → InOrder (map (frames_to c) (messages_on past l)) (blocks c past l)
known-order c past l sound a k =
    let i : IsLink c (host_of l) l = record { host = refl; address = a }
    in let s : HostState = k.states (host_of l)
    in let hh : Held c past (host_of l) s.done = held-now c past (host_of l) sound k
    in let hb : HasBlocks (on_link c l s.done) (blocks c past l) (tails_with hh.block hh.rest l) = hh.holds.links.at l i
    in rw (hh.holds.accepted_is, filter-append (on l) (map message_of s.done) hh.rest, map-append (frames_to c) (filter (on l) (map message_of s.done)) (filter (on l) hh.rest), frames-on c l s.done, hb.is)
    (in-order (on_link c l s.done) hb.front (tails_with hh.block hh.rest l) (map (frames_to c) (filter (on l) hh.rest)) hb.settled (tails-order c l hh.rest hh.block hh.holds.waits))

-- the two laws
pub reads-sent : (c : Parts) (opening capacity : ℕ) (steps : List (PortId × Step)) → IsSound c → (l : Link) → is_some (nad c l.node) ≡ true → ReadsSent c (history c opening capacity steps) l
reads-sent c opening capacity steps sound l a = known-reads c (history c opening capacity steps) l sound a (history-known c opening capacity steps sound)

pub blocks-order : (c : Parts) (opening capacity : ℕ) (steps : List (PortId × Step)) → IsSound c → (l : Link) → is_some (nad c l.node) ≡ true
    → InOrder (map (frames_to c) (messages_on (history c opening capacity steps) l)) (blocks c (history c opening capacity steps) l)
blocks-order c opening capacity steps sound l a = known-order c (history c opening capacity steps) l sound a (history-known c opening capacity steps sound)
