-- What a finish makes of the hosts and tells, in five cases: nothing moves; one more frame of a message was seen good; its last was; one was
-- damaged; the cluster goes to sleep.
use Rattle.std.proofs.Common.{◌≡◌, ◌≢◌, ◌<◌, ℕ, suc, Bool, true, false, List, [], ◌∷◌, ◌++◌, length, refl, ap, sym, ◌∙◌, subst, arith}
use Rattle.std.specs.Prelude.{Option, Some, None, ◌==◌, drop, if◌then◌else◌, is_some}
use Rattle.std.specs.List.{flat_map}
use Rattle.std.proofs.lemmas.Bool.{ne_eqb}
use Rattle.std.proofs.lemmas.Bool.Decides.{nat_tests}
use Rattle.std.proofs.lemmas.List.{append-nil}
use Rattle.lin_frame.specs.Words.{numbers}
use Rattle.lin_parts.specs.Cluster.{nad, nodes}
use Rattle.lin_parts.specs.declared.parts.Parts.{Parts}
use Rattle.lin_parts.specs.Sound.{IsSound}
use Rattle.lin_core.specs.History.{Slot, is_sleep_asked, is_sleep_slot, open_slot, seen_of}
use Rattle.lin_core.specs.Links.{Fate, Link, Message, goes_over, home, reading}
use Rattle.lin_core.specs.Links.Fate.{Lost, Sent}
use Rattle.lin_core.specs.Replies.{finish_events}
use Rattle.lin_core.specs.declared.event.Event.{Event}
use Rattle.lin_core.specs.declared.event.Event.TheVariants.{Asleep as SleepEvent, Lost as LostEvent, Seen as SeenEvent, Sent as SentEvent}
use Rattle.lin_core.specs.declared.link.Cause.TheVariants.{Damaged, Slept}
use Rattle.lin_core.specs.declared.log.LogEntry.{LogEntry}
use Rattle.lin_core.specs.declared.port.PortId.{PortId}
use Rattle.lin_core.specs.declared.step.Step.TheVariants.{Finish}
use Rattle.lin_core.proofs.steps.FinishEvents.{ToldIs, finish-one, finish-quiet, finish-sleep, link-gains, lost_by}
use Rattle.lin_core.proofs.steps.FinishEvents.ToldIs.{lost}
use Rattle.lin_core.proofs.kept.Going.{GoesOn}
use Rattle.lin_core.proofs.sendings.Hosts.{CanGo, HostState, eqb-self}
use Rattle.lin_core.proofs.steps.Known.{Known, SlotIs, entry_is, finish-known, served-same}
use Rattle.lin_core.proofs.steps.Known.SlotIs.{carries, closed, master, other, served, slave, sleep}
use Rattle.lin_core.proofs.sendings.Moves.{advanced, is_last, marked}
use Rattle.lin_core.proofs.laws.Reports.{host-below}
use Rattle.lin_core.proofs.kept.Settling.{Settles}
use Rattle.lin_core.proofs.sendings.Turns.{FinishIs, finish-is}
use Rattle.lin_core.proofs.sendings.Turns.FinishIs.{asleep as asleep-is, awake as awake-is, carried as carried-is, shut as shut-is, still as still-is}
use Rattle.lin_core.specs.kept.Slots.{is_still, pdu_of}
use Rattle.lin_core.specs.declared.pdu.Pdu.{Pdu}
use Rattle.lin_core.specs.declared.pdu.Pdu.TheVariants.{OfMessage, Nothing, Sleep}

-- what is known after a finish
abbrev pub known_after : (c : Parts) (past : List LogEntry) (by : PortId) (es : List Event) → IsSound c → Known c past → Known c (entry_is by Finish es ∷ past)
known_after c past by es sound k = finish-known c past by es sound k (open_slot past) refl k.slot

-- the hosts' states don't hang on the events
states-same : (c : Parts) (past : List LogEntry) (by : PortId) (es ds : List Event) (sound : IsSound c) (k : Known c past) (o : Option Slot) (is : open_slot past ≡ o) (shape : SlotIs c (is_sleep_asked past) k.states o) (x : ℕ)
    → (finish-known c past by es sound k o is shape).states x ≡ (finish-known c past by ds sound k o is shape).states x
states-same c past by es ds sound k None is closed x = refl
states-same c past by es ds sound k (Some _) is (served s e) x = served-same c past by es ds s (is_sleep_slot s) is e refl k x
states-same c past by es ds sound k (Some _) is (other s p q) x = refl
states-same c past by es ds sound k (Some _) is (master table entry due left hurt line only w) x = refl
states-same c past by es ds sound k (Some _) is (slave table entry due left hurt h line only w) x = refl
states-same c past by es ds sound k (Some _) is (sleep table entry due left true only) x = refl
states-same c past by es ds sound k (Some _) is (sleep table entry due left false only) x = refl
states-same c past by es ds sound k (Some _) is (carries table entry due left hurt h m ms j only host r n) x = refl

pub record CarriedIs (c : Parts) (k : ℕ → HostState) (states' : ℕ → HostState) (hurt : Bool) (h : ℕ) : Type 0 where
  pub message : Message
  pub later : List Message
  pub first : (k h).rest ≡ message ∷ later
  pub go : CanGo c h message
  pub own : states' h ≡ advanced hurt (is_last message.bytes (k h).count) (k h).done message later (k h).count
  pub others : (x : ℕ) → h ≢ x → states' x ≡ k x

carried-case : (c : Parts) (k states' : ℕ → HostState) (hurt : Bool) (h : ℕ) (m : Message) (ms : List Message) (j : ℕ) → (k h).rest ≡ m ∷ ms → (k h).count ≡ j → CanGo c h m
    → ((x : ℕ) → states' x ≡ (if h == x then advanced hurt (is_last m.bytes j) (k h).done m ms j else k x)) → CarriedIs c k states' hurt h
carried-case c k states' hurt h m ms j first count go e = record {
  message = m;
  later = ms;
  first = first;
  go = go;
  own = e h ∙ rw (eqb-self h, count) refl;
  others = λ x differ. e x ∙ rw (ne_eqb h x differ) refl;
}

-- the case by what the slot carries
pub still-case : (c : Parts) (k states' : ℕ → HostState) (o : Option Slot) (s : Slot) → FinishIs c k states' o → o ≡ Some s → pdu_of s ≡ Nothing → (is_sleep_slot s ≡ false) × ((x : ℕ) → states' x ≡ k x)
still-case c k states' None s (shut-is e) is pdu = cc
still-case c k states' (Some _) s (still-is t l awake e) is pdu = let same : t ≡ s = cc in (subst (λ (y : Slot). is_sleep_slot y ≡ false) same awake, e)
still-case c k states' (Some _) s (awake-is t l hurt awake e) is pdu = let same : t ≡ s = cc in (subst (λ (y : Slot). is_sleep_slot y ≡ false) same awake, e)
still-case c k states' (Some _) s (asleep-is t l hurt asleep e) is pdu = absurd (let same : t ≡ s = cc in let bad : Sleep ≡ Nothing = sym l ∙ ap pdu_of same ∙ pdu in cc)
still-case c k states' (Some _) s (carried-is t h m ms j l awake header puts first count go e) is pdu = absurd (let same : t ≡ s = cc in let bad : OfMessage h ≡ Nothing = sym l ∙ ap pdu_of same ∙ pdu in cc)

pub sleep-case : (c : Parts) (k states' : ℕ → HostState) (o : Option Slot) (s : Slot) → FinishIs c k states' o → o ≡ Some s → pdu_of s ≡ Sleep → s.hurt ≡ false
    → (is_sleep_slot s ≡ true) × ((x : ℕ) → states' x ≡ marked (λ l. true) Slept (k x).done (k x).rest (k x).count)
sleep-case c k states' None s (shut-is e) is pdu calm = cc
sleep-case c k states' (Some _) s (still-is t l awake e) is pdu calm = absurd (let same : t ≡ s = cc in let bad : Nothing ≡ Sleep = sym l ∙ ap pdu_of same ∙ pdu in cc)
sleep-case c k states' (Some _) s (awake-is t l hurt awake e) is pdu calm = absurd (let same : t ≡ s = cc in let bad : true ≡ false = sym hurt ∙ ap (λ (y : Slot). y.hurt) same ∙ calm in cc)
sleep-case c k states' (Some _) s (asleep-is t l hurt asleep e) is pdu calm = let same : t ≡ s = cc in (subst (λ (y : Slot). is_sleep_slot y ≡ true) same asleep, e)
sleep-case c k states' (Some _) s (carried-is t h m ms j l awake header puts first count go e) is pdu calm = absurd (let same : t ≡ s = cc in let bad : OfMessage h ≡ Sleep = sym l ∙ ap pdu_of same ∙ pdu in cc)

pub hurt-case : (c : Parts) (k states' : ℕ → HostState) (o : Option Slot) (s : Slot) → FinishIs c k states' o → o ≡ Some s → pdu_of s ≡ Sleep → s.hurt ≡ true → (is_sleep_slot s ≡ false) × ((x : ℕ) → states' x ≡ k x)
hurt-case c k states' None s (shut-is e) is pdu bad = cc
hurt-case c k states' (Some _) s (still-is t l awake e) is pdu hurt = let same : t ≡ s = cc in (subst (λ (y : Slot). is_sleep_slot y ≡ false) same awake, e)
hurt-case c k states' (Some _) s (awake-is t l y awake e) is pdu hurt = let same : t ≡ s = cc in (subst (λ (y : Slot). is_sleep_slot y ≡ false) same awake, e)
hurt-case c k states' (Some _) s (asleep-is t l calm asleep e) is pdu hurt = absurd (let same : t ≡ s = cc in let bad : false ≡ true = sym calm ∙ ap (λ (y : Slot). y.hurt) same ∙ hurt in cc)
hurt-case c k states' (Some _) s (carried-is t h m ms j l awake header puts first count go e) is pdu hurt = absurd (let same : t ≡ s = cc in let bad : OfMessage h ≡ Sleep = sym l ∙ ap pdu_of same ∙ pdu in cc)

pub message-case : (c : Parts) (k states' : ℕ → HostState) (o : Option Slot) (s : Slot) (h : ℕ) → FinishIs c k states' o → o ≡ Some s → pdu_of s ≡ OfMessage h → (is_sleep_slot s ≡ false) × CarriedIs c k states' s.hurt h
message-case c k states' None s h (shut-is e) is pdu = cc
message-case c k states' (Some _) s h (still-is t l awake e) is pdu = absurd (let same : t ≡ s = cc in let bad : Nothing ≡ OfMessage h = sym l ∙ ap pdu_of same ∙ pdu in cc)
message-case c k states' (Some _) s h (awake-is t l hurt awake e) is pdu = absurd (let same : t ≡ s = cc in let bad : Sleep ≡ OfMessage h = sym l ∙ ap pdu_of same ∙ pdu in cc)
message-case c k states' (Some _) s h (asleep-is t l hurt asleep e) is pdu = absurd (let same : t ≡ s = cc in let bad : Sleep ≡ OfMessage h = sym l ∙ ap pdu_of same ∙ pdu in cc)
message-case c k states' (Some _) s h (carried-is t g m ms j l awake header puts first count go e) is pdu =
    let same : t ≡ s = cc
    in let both : OfMessage g ≡ OfMessage h = sym l ∙ ap pdu_of same ∙ pdu
    in let host : g ≡ h = cc
    in (
      subst (λ (y : Slot). is_sleep_slot y ≡ false) same awake,
      subst (λ (y : Slot). CarriedIs c k states' y.hurt h) same (subst (λ (x : ℕ). CarriedIs c k states' t.hurt x) host (carried-case c k states' t.hurt g m ms j first count go e)),
    )

-- what is told, and how the hosts' messages change, in each case
abbrev of_states : (c : Parts) (past : List LogEntry) (by : PortId) → IsSound c → Known c past → List Event → ℕ → HostState
of_states c past by sound k es = (known_after c past by es sound k).states

case-is : (c : Parts) (past : List LogEntry) (by : PortId) (es : List Event) (sound : IsSound c) (k : Known c past) → FinishIs c k.states (of_states c past by sound k es) (open_slot past)
case-is c past by es sound k = finish-is c past by es sound k (open_slot past) refl k.slot

-- nothing moves
pub record Still (c : Parts) (past : List LogEntry) (by : PortId) (s : Slot) (sound : IsSound c) (k : Known c past) : Type 0 where
  pub told : finish_events c by past ≡ SeenEvent (seen_of s) ∷ []
  pub same : (es : List Event) (x : ℕ) → of_states c past by sound k es x ≡ k.states x

still-by : (c : Parts) (past : List LogEntry) (by : PortId) (s : Slot) (sound : IsSound c) (k : Known c past) → open_slot past ≡ Some s → is_sleep_slot s ≡ false → ((es : List Event) (x : ℕ) → of_states c past by sound k es x ≡ k.states x) → Still c past by s sound k
still-by c past by s sound k is awake same = record {
  told = finish-quiet c past by s sound k (known_after c past by [] sound k) (λ x. ap (λ (y : HostState). y.done) (same [] x)) awake is;
  same = same;
}

pub finishes-still : (c : Parts) (past : List LogEntry) (by : PortId) (s : Slot) (sound : IsSound c) (k : Known c past) → open_slot past ≡ Some s → pdu_of s ≡ Nothing → Still c past by s sound k
finishes-still c past by s sound k is pdu =
    let at : (es : List Event) → (is_sleep_slot s ≡ false) × ((x : ℕ) → of_states c past by sound k es x ≡ k.states x)
    = λ es. still-case c k.states (of_states c past by sound k es) (open_slot past) s (case-is c past by es sound k) is pdu
    in still-by c past by s sound k is (at []).0 (λ es x. (at es).1 x)

pub finishes-awake : (c : Parts) (past : List LogEntry) (by : PortId) (s : Slot) (sound : IsSound c) (k : Known c past) → open_slot past ≡ Some s → pdu_of s ≡ Sleep → s.hurt ≡ true → Still c past by s sound k
finishes-awake c past by s sound k is pdu hurt =
    let at : (es : List Event) → (is_sleep_slot s ≡ false) × ((x : ℕ) → of_states c past by sound k es x ≡ k.states x)
    = λ es. hurt-case c k.states (of_states c past by sound k es) (open_slot past) s (case-is c past by es sound k) is pdu hurt
    in still-by c past by s sound k is (at []).0 (λ es x. (at es).1 x)

quiet-by : (c : Parts) (past : List LogEntry) (by : PortId) (s : Slot) (sound : IsSound c) (k : Known c past) (pdu : Pdu) (hurt : Bool) → pdu_of s ≡ pdu → s.hurt ≡ hurt → open_slot past ≡ Some s → is_still pdu hurt ≡ true → Still c past by s sound k
quiet-by c past by s sound k Nothing hurt l h is t = finishes-still c past by s sound k is l
quiet-by c past by s sound k Sleep hurt l h is t = finishes-awake c past by s sound k is l (h ∙ t)
quiet-by c past by s sound k (OfMessage host) hurt l h is t = cc

pub finishes-quiet : (c : Parts) (past : List LogEntry) (by : PortId) (s : Slot) (sound : IsSound c) (k : Known c past) → open_slot past ≡ Some s → is_still (pdu_of s) s.hurt ≡ true → Still c past by s sound k
finishes-quiet c past by s sound k is t = quiet-by c past by s sound k (pdu_of s) s.hurt refl refl is t

-- one more frame of a message was seen good
pub record Part (c : Parts) (past : List LogEntry) (by : PortId) (s : Slot) (sound : IsSound c) (k : Known c past) (h : ℕ) : Type 0 where
  pub message : Message
  pub told : finish_events c by past ≡ SeenEvent (seen_of s) ∷ []
  pub goes : (es : List Event) → GoesOn c past (entry_is by Finish es) k (known_after c past by es sound k) h
  pub is : (es : List Event) → (goes es).message ≡ message

-- the case of a message, for the states after each list of events
message-at : (c : Parts) (past : List LogEntry) (by : PortId) (s : Slot) (sound : IsSound c) (k : Known c past) (h : ℕ) → open_slot past ≡ Some s → pdu_of s ≡ OfMessage h
    → (is_sleep_slot s ≡ false) × CarriedIs c k.states (of_states c past by sound k []) s.hurt h
message-at c past by s sound k h is pdu = message-case c k.states (of_states c past by sound k []) (open_slot past) s h (case-is c past by [] sound k) is pdu

after-same : (c : Parts) (past : List LogEntry) (by : PortId) (sound : IsSound c) (k : Known c past) (es : List Event) (x : ℕ) → of_states c past by sound k es x ≡ of_states c past by sound k [] x
after-same c past by sound k es x = states-same c past by es [] sound k (open_slot past) refl k.slot x

done-part : (c : Parts) (k states' : ℕ → HostState) (h x : ℕ) (b : Bool) → (h == x) ≡ b → (i : CarriedIs c k states' false h) → is_last i.message.bytes (k h).count ≡ false → (states' x).done ≡ (k x).done
done-part c k states' h x true e i last =
    let same : h ≡ x = grind (arith, nat_tests, e)
    in subst (λ (y : ℕ). (states' y).done ≡ (k y).done) same (ap (λ (z : HostState). z.done) i.own ∙ rw last refl)
done-part c k states' h x false e i last = ap (λ (z : HostState). z.done) (i.others x (λ z. let t : (h == x) ≡ true = grind (arith, nat_tests, z) in let bad : true ≡ false = sym t ∙ e in cc))

rest-part : (c : Parts) (k states' : ℕ → HostState) (h x : ℕ) (b : Bool) → (h == x) ≡ b → (i : CarriedIs c k states' false h) → is_last i.message.bytes (k h).count ≡ false → (states' x).rest ≡ (k x).rest
rest-part c k states' h x true e i last =
    let same : h ≡ x = grind (arith, nat_tests, e)
    in subst (λ (y : ℕ). (states' y).rest ≡ (k y).rest) same (ap (λ (z : HostState). z.rest) i.own ∙ rw last (sym i.first))
rest-part c k states' h x false e i last = ap (λ (z : HostState). z.rest) (i.others x (λ z. let t : (h == x) ≡ true = grind (arith, nat_tests, z) in let bad : true ≡ false = sym t ∙ e in cc))

count-part : (c : Parts) (k states' : ℕ → HostState) (h : ℕ) (i : CarriedIs c k states' false h) → is_last i.message.bytes (k h).count ≡ false → (states' h).count ≡ suc (k h).count
count-part c k states' h i last = ap (λ (z : HostState). z.count) i.own ∙ rw last refl

whole-own : (c : Parts) (k states' : ℕ → HostState) (h : ℕ) (i : CarriedIs c k states' false h) → is_last i.message.bytes (k h).count ≡ true → states' h ≡ record { done = (k h).done ++ (i.message, Sent) ∷ []; rest = i.later; count = 0 }
whole-own c k states' h i last = i.own ∙ rw last refl

pub finishes-part : (c : Parts) (past : List LogEntry) (by : PortId) (s : Slot) (sound : IsSound c) (k : Known c past) (h : ℕ) (m : Message) (ms : List Message) → open_slot past ≡ Some s → pdu_of s ≡ OfMessage h → s.hurt ≡ false
    → (k.states h).rest ≡ m ∷ ms → is_last m.bytes (k.states h).count ≡ false → Part c past by s sound k h
finishes-part c past by s sound k h m ms is pdu calm first last =
    let at = message-at c past by s sound k h is pdu
    in let i : CarriedIs c k.states (of_states c past by sound k []) false h = subst (λ (b : Bool). CarriedIs c k.states (of_states c past by sound k []) b h) calm at.1
    in let both : i.message ∷ i.later ≡ m ∷ ms = sym i.first ∙ first
    in let is_m : i.message ≡ m = cc
    in let last' : is_last i.message.bytes (k.states h).count ≡ false = ap (λ (y : Message). is_last y.bytes (k.states h).count) is_m ∙ last
    in record {
      message = i.message;
      told = finish-quiet c past by s sound k (known_after c past by [] sound k) (λ x. done-part c k.states (of_states c past by sound k []) h x (h == x) refl i last') at.0 is;
      goes = λ es. record {
        message = i.message;
        later = i.later;
        first = i.first;
        rests = λ x. ap (λ (z : HostState). z.rest) (after-same c past by sound k es x) ∙ rest-part c k.states (of_states c past by sound k []) h x (h == x) refl i last';
        count = ap (λ (z : HostState). z.count) (after-same c past by sound k es h) ∙ count-part c k.states (of_states c past by sound k []) h i last';
        others = λ x differ. ap (λ (z : HostState). z.count) (after-same c past by sound k es x ∙ i.others x differ);
        accepted = λ x. refl;
      };
      is = λ es. refl;
    }

-- a message is settled: it was sent whole, or one of its frames was damaged
pub record Done (c : Parts) (past : List LogEntry) (by : PortId) (s : Slot) (sound : IsSound c) (k : Known c past) (h : ℕ) (es : List Event) : Type 0 where
  pub told : finish_events c by past ≡ SeenEvent (seen_of s) ∷ es
  pub settles : (ds : List Event) → Settles c past (entry_is by Finish ds) k (known_after c past by ds sound k) h

record SettledIs (c : Parts) (k states' : ℕ → HostState) (h : ℕ) (m : Message) (f : Fate) : Type 0 where
  later : List Message
  first : (k h).rest ≡ m ∷ later
  go : CanGo c h m
  own : states' h ≡ record { done = (k h).done ++ (m, f) ∷ []; rest = later; count = 0 }
  others : (x : ℕ) → h ≢ x → states' x ≡ k x

done-settled : (c : Parts) (k states' : ℕ → HostState) (h x : ℕ) (m : Message) (f : Fate) (b : Bool) → (h == x) ≡ b → SettledIs c k states' h m f → (states' x).done ≡ (k x).done ++ (if b then (m, f) ∷ [] else [])
done-settled c k states' h x m f true e i =
    let same : h ≡ x = grind (arith, nat_tests, e)
    in subst (λ (y : ℕ). (states' y).done ≡ (k y).done ++ (m, f) ∷ []) same (ap (λ (z : HostState). z.done) i.own)
done-settled c k states' h x m f false e i = ap (λ (z : HostState). z.done) (i.others x (λ z. let t : (h == x) ≡ true = grind (arith, nat_tests, z) in let bad : true ≡ false = sym t ∙ e in cc)) ∙ sym (append-nil (k x).done)

settled-settles : (c : Parts) (past : List LogEntry) (by : PortId) (sound : IsSound c) (k : Known c past) (h : ℕ) (m : Message) (f : Fate) → SettledIs c k.states (of_states c past by sound k []) h m f
    → (ds : List Event) → Settles c past (entry_is by Finish ds) k (known_after c past by ds sound k) h
settled-settles c past by sound k h m f i ds = record {
  message = m;
  later = i.later;
  first = i.first;
  rest = ap (λ (z : HostState). z.rest) (after-same c past by sound k ds h ∙ i.own);
  count = ap (λ (z : HostState). z.count) (after-same c past by sound k ds h ∙ i.own);
  others = λ x differ. (ap (λ (z : HostState). z.rest) (after-same c past by sound k ds x ∙ i.others x differ), ap (λ (z : HostState). z.count) (after-same c past by sound k ds x ∙ i.others x differ));
  accepted = λ x. refl;
}

whole-settled : (c : Parts) (past : List LogEntry) (by : PortId) (s : Slot) (sound : IsSound c) (k : Known c past) (h : ℕ) (m : Message) (ms : List Message) → open_slot past ≡ Some s → pdu_of s ≡ OfMessage h → s.hurt ≡ false
    → (k.states h).rest ≡ m ∷ ms → is_last m.bytes (k.states h).count ≡ true → SettledIs c k.states (of_states c past by sound k []) h m Sent
whole-settled c past by s sound k h m ms is pdu calm first last =
    let at = message-at c past by s sound k h is pdu
    in let i : CarriedIs c k.states (of_states c past by sound k []) false h = subst (λ (b : Bool). CarriedIs c k.states (of_states c past by sound k []) b h) calm at.1
    in let both : i.message ∷ i.later ≡ m ∷ ms = sym i.first ∙ first
    in let is_m : i.message ≡ m = cc
    in subst (λ (y : Message). SettledIs c k.states (of_states c past by sound k []) h y Sent) is_m
    (record { later = i.later; first = i.first; go = i.go; own = whole-own c k.states (of_states c past by sound k []) h i (ap (λ (y : Message). is_last y.bytes (k.states h).count) is_m ∙ last); others = i.others })

-- what the receivers of the links that it goes over read more
pub whole-gains : (c : Parts) (past : List LogEntry) (by : PortId) (s : Slot) (sound : IsSound c) (k : Known c past) (h : ℕ) (m : Message) (ms : List Message) → open_slot past ≡ Some s → pdu_of s ≡ OfMessage h → s.hurt ≡ false
    → (k.states h).rest ≡ m ∷ ms → is_last m.bytes (k.states h).count ≡ true → (es : List Event) (l : Link) → is_some (nad c l.node) ≡ true → goes_over m.link l ≡ true
    → drop (length (reading c past l)) (reading c (entry_is by Finish es ∷ past) l) ≡ m.bytes ∷ []
whole-gains c past by s sound k h m ms is pdu calm first last es l a over =
    let settled : SettledIs c k.states (of_states c past by sound k []) h m Sent = whole-settled c past by s sound k h m ms is pdu calm first last
    in link-gains c past by h m Sent settled.go.host k (known_after c past by [] sound k) (λ x. done-settled c k.states (of_states c past by sound k []) h x m Sent (h == x) refl settled) l a
    ∙ rw over refl

pub finishes-whole : (c : Parts) (past : List LogEntry) (by : PortId) (s : Slot) (sound : IsSound c) (k : Known c past) (h : ℕ) (m : Message) (ms : List Message) (es : List Event) → open_slot past ≡ Some s → pdu_of s ≡ OfMessage h → s.hurt ≡ false
    → (k.states h).rest ≡ m ∷ ms → is_last m.bytes (k.states h).count ≡ true → ToldIs c h m Sent es
    → Done c past by s sound k h (es ++ SentEvent h (suc (length (k.states h).done)) ∷ [])
finishes-whole c past by s sound k h m ms es is pdu calm first last told =
    let at = message-at c past by s sound k h is pdu
    in let settled : SettledIs c k.states (of_states c past by sound k []) h m Sent = whole-settled c past by s sound k h m ms is pdu calm first last
    in record {
      told = finish-one c past by s h m Sent es sound settled.go told k (known_after c past by [] sound k) (λ x. done-settled c k.states (of_states c past by sound k []) h x m Sent (h == x) refl settled) at.0 is;
      settles = settled-settles c past by sound k h m Sent settled;
    }

pub finishes-damaged : (c : Parts) (past : List LogEntry) (by : PortId) (s : Slot) (sound : IsSound c) (k : Known c past) (h : ℕ) → open_slot past ≡ Some s → pdu_of s ≡ OfMessage h → s.hurt ≡ true
    → Done c past by s sound k h (LostEvent h (suc (length (k.states h).done)) Damaged ∷ [])
finishes-damaged c past by s sound k h is pdu hurt =
    let at = message-at c past by s sound k h is pdu
    in let i : CarriedIs c k.states (of_states c past by sound k []) true h = subst (λ (b : Bool). CarriedIs c k.states (of_states c past by sound k []) b h) hurt at.1
    in let settled : SettledIs c k.states (of_states c past by sound k []) h i.message (Lost Damaged) = record { later = i.later; first = i.first; go = i.go; own = i.own; others = i.others }
    in record {
      told = finish-one c past by s h i.message (Lost Damaged) [] sound settled.go (lost Damaged) k (known_after c past by [] sound k) (λ x. done-settled c k.states (of_states c past by sound k []) h x i.message (Lost Damaged) (h == x) refl settled) at.0 is;
      settles = settled-settles c past by sound k h i.message (Lost Damaged) settled;
    }

-- the cluster goes to sleep
pub record Sleeps (c : Parts) (past : List LogEntry) (by : PortId) (s : Slot) (sound : IsSound c) (k : Known c past) : Type 0 where
  pub told : finish_events c by past ≡ SeenEvent (seen_of s) ∷ SleepEvent ∷ flat_map (lost_by k.states (λ l. true) Slept) (numbers (nodes c))
  pub states_are : (es : List Event) (x : ℕ) → of_states c past by sound k es x ≡ marked (λ l. true) Slept (k.states x).done (k.states x).rest (k.states x).count

pub finishes-asleep : (c : Parts) (past : List LogEntry) (by : PortId) (s : Slot) (sound : IsSound c) (k : Known c past) → open_slot past ≡ Some s → pdu_of s ≡ Sleep → s.hurt ≡ false → Sleeps c past by s sound k
finishes-asleep c past by s sound k is pdu calm =
    let at : (es : List Event) → (is_sleep_slot s ≡ true) × ((x : ℕ) → of_states c past by sound k es x ≡ marked (λ l. true) Slept (k.states x).done (k.states x).rest (k.states x).count)
    = λ es. sleep-case c k.states (of_states c past by sound k es) (open_slot past) s (case-is c past by es sound k) is pdu calm
    in record { told = finish-sleep c past by s sound k (known_after c past by [] sound k) (at []).1 (at []).0 is; states_are = λ es. (at es).1 }

-- the host of the message that a slot carries is a node
pub record HostCarried (c : Parts) (states : ℕ → HostState) (h : ℕ) : Type 0 where
  pub message : Message
  pub later : List Message
  pub first : (states h).rest ≡ message ∷ later
  pub below : h < nodes c

pub host-carried : (c : Parts) (past : List LogEntry) (by : PortId) (s : Slot) (sound : IsSound c) (k : Known c past) (h : ℕ) → open_slot past ≡ Some s → pdu_of s ≡ OfMessage h → HostCarried c k.states h
host-carried c past by s sound k h is pdu =
    let i = (message-at c past by s sound k h is pdu).1
    in record { message = i.message; later = i.later; first = i.first; below = host-below c h (home c i.message.link).node (home c i.message.link).dir i.go.home_is }
