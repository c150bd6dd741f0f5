-- The steps of slots.
use Rattle.std.proofs.Common.{◌≡◌, ◌∙◌, ℕ, suc, zero, ◌+◌, ◌<◌, eqb-true, Bool, true, false, not, List, [], ◌∷◌, ◌++◌, map, refl, sym, ap, arith, append_assoc, add-one, subst, cond, drop, get_or, length, length-append, take, Option, Some, None}
use Rattle.std.specs.Prelude.{◌==◌, ◌&&◌, filter, if◌then◌else◌, is_some}
use Rattle.std.specs.Option.{option_map_or}
use Rattle.std.proofs.lemmas.Bool.{and_parts}
use Rattle.std.proofs.Math.Seq.{drop-cons}
use Rattle.std.proofs.lemmas.List.{map-append, take-append-drop}
use Rattle.std.proofs.lemmas.List.Elements.{filter-append}
use Rattle.lin_parts.specs.declared.parts.Parts.{Parts}
use Rattle.lin_core.specs.Core.{past_of}
use Rattle.lin_core.specs.History.{is_finish, time}
use Rattle.lin_core.specs.Replies.{done_events, refusal, reply}
use Rattle.lin_core.specs.declared.event.Event.{Event}
use Rattle.lin_core.specs.declared.log.LogEntry.{LogEntry}
use Rattle.lin_core.specs.declared.port.PortId.{PortId}
use Rattle.lin_core.specs.declared.port.PortId.TheVariants.{Bus}
use Rattle.lin_core.specs.declared.reply.Refusal.{Refusal}
use Rattle.lin_core.specs.declared.reply.Reply.TheVariants.{Done, Refused}
use Rattle.lin_core.specs.declared.step.Step.{Step}
use Rattle.lin_core.specs.declared.step.Step.TheVariants.{Open, Answer, Leave, Finish}
use Rattle.lin_bench.specs.Making.{IsGrown, AreExecuted, NoRoom, RuledData, SlotsFail, StepsFail, course_on, ends_at, extent_on, first_on}
use Rattle.lin_bench.specs.Slots.{Course, course_after, decision, due_in, due_now, extent_steps, hurt_steps, is_opened, leaves, most, goes_on_until, slot_rest, slot_steps, ended_slot_count, slots_steps, way, Way}
use Rattle.lin_bench.specs.declared.expected.Expected.{Expected}
use Rattle.lin_bench.specs.declared.taken.EventKind.{EventKind}
use Rattle.lin_bench.specs.declared.line.Disturbance.{Disturbance}
use Rattle.lin_bench.specs.declared.line.Disturbance.TheVariants as slot
use Rattle.lin_bench.specs.declared.line.Extent.{Extent}
use Rattle.lin_bench.specs.declared.fault.MakeFault.{MakeFault}
use Rattle.lin_bench.specs.declared.fault.MakeFault.TheVariants.{LogFull, OutOfMemory}
use Rattle.lin_bench.proofs.Makes.{append-nothing, fails-after, fails-before, grown-made, grown-more, made-more, made-nothing}

-- ---- the steps of nodes that are due
pub map-split : {X : Type 0} (f : ℕ → X) (xs : List ℕ) (i : ℕ) → i < length xs → map f xs ≡ map f (take i xs) ++ f (get_or xs i 0) ∷ map f (drop (suc i) xs)
map-split f xs i h =
    sym (ap (map f) (take-append-drop i xs)) ∙ map-append f (take i xs) (drop i xs)
    ∙ ap (λ l. map f (take i xs) ++ map f l) (drop-cons xs i 0 h)

-- one of them fails
pub one-fails : (fault : MakeFault) (a now new : RuledData) (w : Way) (due : List ℕ) (i : ℕ) → i < length due → AreExecuted a (map (decision w) (take i due)) now
    → StepsFail fault now (decision w (get_or due i 0) ∷ []) × IsGrown now.core new.core → StepsFail fault a (map (decision w) due) × IsGrown a.core new.core
one-fails fault a now new w due i small made (fails, grown) =
    let one : List (PortId × Step) = decision w (get_or due i 0) ∷ [] in
    let rest = map (decision w) (drop (suc i) due) in (
      rw (map-split (decision w) due i small)
          (fails-after fault a now (map (decision w) (take i due)) (one ++ rest) made (fails-before fault now one rest fails)),
      grown-more a.core now.core new.core (grown-made a now (map (decision w) (take i due)) made) grown,
    )

-- ---- how many slots end by steps
pub slots_in-append : (ss ts : List (PortId × Step)) → ended_slot_count (ss ++ ts) ≡ ended_slot_count ss + ended_slot_count ts
slots_in-append ss ts =
    ap length (filter-append (λ (s : PortId × Step). is_finish s.1) ss ts)
    ∙ length-append (filter (λ (s : PortId × Step). is_finish s.1) ss) (filter (λ (s : PortId × Step). is_finish s.1) ts)

choice-ends-none : (b : Bool) (n : ℕ) → is_finish (if b then Leave n else Answer n) ≡ false
choice-ends-none true n = refl
choice-ends-none false n = refl

decisions-end-none : (w : Way) (due : List ℕ) → ended_slot_count (map (decision w) due) ≡ 0
decisions-end-none w [] = refl
decisions-end-none w (n ∷ ns) =
    let rest = filter (λ (s : PortId × Step). is_finish s.1) (map (decision w) ns) in
    ap (λ b. length (cond b (decision w n ∷ rest) rest)) (choice-ends-none (leaves w n) n) ∙ decisions-end-none w ns

one-ends : (how : Disturbance) → ended_slot_count (hurt_steps how ++ (Bus, Finish) ∷ []) ≡ 1
one-ends slot.Undisturbed = refl
one-ends (slot.Hurt bytes) = refl
one-ends (slot.Leave nodes) = refl

rest-ends-one : (w : Way) (due : List ℕ) → ended_slot_count (slot_rest w (Some due)) ≡ 1
rest-ends-one w due =
    let e = slots_in-append (map (decision w) due) (hurt_steps w.how ++ (Bus, Finish) ∷ []) in
    omega (arith, e, decisions-end-none w due, one-ends w.how)

opened-ends-one : (w : Way) (due : Option (List ℕ)) → is_opened due ≡ true → ended_slot_count ((Bus, Open) ∷ slot_rest w due) ≡ 1
opened-ends-one w None h = cc
opened-ends-one w (Some due) h = rest-ends-one w due

refused-ends-none : (w : Way) (due : Option (List ℕ)) → is_opened due ≡ false → ended_slot_count ((Bus, Open) ∷ slot_rest w due) ≡ 0
refused-ends-none w None h = refl
refused-ends-none w (Some due) h = cc

pub one-slot : (c : Parts) (o cap : ℕ) (w : Way) (past : List LogEntry) → is_opened (due_now c o cap past) ≡ true
    → ended_slot_count (slot_steps c o cap w past) ≡ 1
unfolding slot_steps
one-slot c o cap w past h = opened-ends-one w (due_now c o cap past) h

pub no-slot : (c : Parts) (o cap : ℕ) (w : Way) (past : List LogEntry) → is_opened (due_now c o cap past) ≡ false
    → ended_slot_count (slot_steps c o cap w past) ≡ 0
unfolding slot_steps
no-slot c o cap w past h = refused-ends-none w (due_now c o cap past) h

pub steps-opened : (c : Parts) (o cap : ℕ) (w : Way) (past : List LogEntry) (due : List ℕ) → due_now c o cap past ≡ Some due
    → slot_steps c o cap w past ≡ (Bus, Open) ∷ slot_rest w (Some due)
unfolding slot_steps
steps-opened c o cap w past due h = rw h refl

pub open-fails : (fault : MakeFault) (a : RuledData) (w : Way) → StepsFail fault a ((Bus, Open) ∷ [])
    → StepsFail fault a (slot_steps a.core.cluster a.core.opening a.core.capacity w (past_of a.core))
unfolding slot_steps
open-fails fault a w fails =
    fails-before fault a ((Bus, Open) ∷ []) (slot_rest w (due_now a.core.cluster a.core.opening a.core.capacity (past_of a.core))) fails

-- whether a slot can be opened, by the refusal of its open
opened-by : (why : Option Refusal) (es : List Event) (b : Bool) → is_some why ≡ not b → b ≡ is_opened (due_in (option_map_or Refused why (Done es)))
opened-by None es true h = refl
opened-by None es false h = h
opened-by (Some why) es true h = h
opened-by (Some why) es false h = refl

pub can-open : (c : Parts) (o cap : ℕ) (past : List LogEntry) (b : Bool) → is_some (refusal c cap past Bus Open) ≡ not b → b ≡ is_opened (due_now c o cap past)
unfolding reply
can-open c o cap past b h = opened-by (refusal c cap past Bus Open) (done_events c o past Bus Open) b h

pub some-left : (n : ℕ) (b : Bool) → (n == 0 && b) ≡ false → b ≡ true → 0 < n
some-left zero true h k = absurd (cc)
some-left zero false h k = absurd (cc)
some-left (suc n) b h k = omega arith

pub none-left : (n : ℕ) (b : Bool) → (n == 0 && b) ≡ true → (n ≡ 0) × (b ≡ true)
none-left n b h = let p = and_parts (n == 0) b h in (eqb-true n 0 p.0, p.1)

-- ---- one more slot of those of a line
turn-stops : (c : Parts) (o cap : ℕ) (how : Disturbance) (goes : Course → Bool) (n : ℕ) (at : Course)
    → goes at ≡ false → slots_steps c o cap how goes n at ≡ []
unfolding slots_steps
turn-stops c o cap how goes zero at h = refl
turn-stops c o cap how goes (suc n) at h = rw h refl

turn-refused : (c : Parts) (o cap : ℕ) (how : Disturbance) (goes : Course → Bool) (n : ℕ) (at : Course)
    → goes at ≡ true → is_opened (due_now c o cap at.past) ≡ false
    → slots_steps c o cap how goes (suc n) at ≡ slot_steps c o cap (way how at.rules.offs) at.past ++ []
unfolding slots_steps
turn-refused c o cap how goes n at h g = rw (h, g) refl

turn-opened : (c : Parts) (o cap : ℕ) (how : Disturbance) (goes : Course → Bool) (n : ℕ) (at : Course)
    → goes at ≡ true → is_opened (due_now c o cap at.past) ≡ true
    → slots_steps c o cap how goes (suc n) at
    ≡ slot_steps c o cap (way how at.rules.offs) at.past ++ slots_steps c o cap how goes n (course_after c o cap at (slot_steps c o cap (way how at.rules.offs) at.past))
unfolding slots_steps
turn-opened c o cap how goes n at h g = rw (h, g) refl

-- the steps of at most n more slots of a line that began on a core
abbrev pub turns : RuledData → Disturbance → Extent → (Course → Bool) → ℕ → Course → List (PortId × Step)
turns a how extent ends n at =
    slots_steps a.core.cluster a.core.opening a.core.capacity how (goes_on_until a.core.cluster extent ends (time a.core.cluster (past_of a.core))) n at

-- slots of a line that began on a core were made, at most n more follow, and so many are left
pub record AreBegun (a : RuledData) (how : Disturbance) (extent : Extent) (ends : Course → Bool) (left : ℕ) (now : RuledData) (n : ℕ) (rest : ℕ) : Type 0 where
  pub steps : List (PortId × Step)
  pub made : AreExecuted a steps now
  pub whole : extent_on a how extent ends ≡ steps ++ turns a how extent ends n (course_on now)
  pub first : first_on a how extent ends left ≡ steps ++ turns a how extent ends rest (course_on now)
  pub count : ended_slot_count steps + rest ≡ left

begin-all : (a : RuledData) (how : Disturbance) (extent : Extent) (ends : Course → Bool) (left : ℕ) → AreBegun a how extent ends left a (most extent) left
unfolding extent_steps
begin-all a how extent ends left = record { steps = []; made = made-nothing a; whole = refl; first = refl; count = omega arith }

pub begin : (a : RuledData) (how : Disturbance) (extent : Extent) (ends : Course → Bool) (left n : ℕ) → n ≡ most extent → AreBegun a how extent ends left a n left
begin a how extent ends left n e = subst (λ k. AreBegun a how extent ends left a k left) (sym e) (begin-all a how extent ends left)

-- whether one more is to be made, by the time at the line's beginning
same-goes : (a now : RuledData) (ss : List (PortId × Step)) (extent : Extent) (ends : Course → Bool) (t : ℕ) (b : Bool) → AreExecuted a ss now
    → t ≡ time a.core.cluster (past_of a.core) → goes_on_until now.core.cluster extent ends t (course_on now) ≡ b
    → goes_on_until a.core.cluster extent ends (time a.core.cluster (past_of a.core)) (course_on now) ≡ b
same-goes a now ss extent ends t b p e h =
    ap (λ c. goes_on_until c extent ends (time a.core.cluster (past_of a.core)) (course_on now)) (sym p.alike.0)
    ∙ ap (λ k. goes_on_until now.core.cluster extent ends k (course_on now)) (sym e) ∙ h

-- and with what is taken at the line's beginning
pub same-ends : (a now : RuledData) (ss : List (PortId × Step)) (js ks : List EventKind) (m n : ℕ) (what : Option (Bool × Expected)) (extent : Extent) (t : ℕ) (b : Bool)
    → AreExecuted a ss now → js ≡ ks → m ≡ n → b ≡ goes_on_until now.core.cluster extent (ends_at now.core.cluster now.core.opening js m what) t (course_on now)
    → goes_on_until now.core.cluster extent (ends_at a.core.cluster a.core.opening ks n what) t (course_on now) ≡ b
same-ends a now ss js ks m n what extent t b p same entries h =
    ap (λ c. goes_on_until now.core.cluster extent (ends_at c a.core.opening ks n what) t (course_on now)) (sym p.alike.0)
    ∙ ap (λ o. goes_on_until now.core.cluster extent (ends_at now.core.cluster o ks n what) t (course_on now)) (sym p.alike.1)
    ∙ ap (λ l. goes_on_until now.core.cluster extent (ends_at now.core.cluster now.core.opening l n what) t (course_on now)) (sym same)
    ∙ ap (λ k. goes_on_until now.core.cluster extent (ends_at now.core.cluster now.core.opening js k what) t (course_on now)) (sym entries) ∙ sym h

-- what a slot of a core says by the core that the line began on
same-slot : (a now : RuledData) (w : Way) (ss : List (PortId × Step)) → AreExecuted a ss now
    → slot_steps now.core.cluster now.core.opening now.core.capacity w (past_of now.core) ≡ slot_steps a.core.cluster a.core.opening a.core.capacity w (past_of now.core)
same-slot a now w ss p = rw (p.alike.0, p.alike.1, p.alike.2) refl

same-due : (a now : RuledData) (ss : List (PortId × Step)) → AreExecuted a ss now
    → due_now now.core.cluster now.core.opening now.core.capacity (past_of now.core) ≡ due_now a.core.cluster a.core.opening a.core.capacity (past_of now.core)
same-due a now ss p = rw (p.alike.0, p.alike.1, p.alike.2) refl

-- no more is to be made
pub stopped : (a now : RuledData) (how : Disturbance) (extent : Extent) (ends : Course → Bool) (left n rest : ℕ) → AreBegun a how extent ends left now n rest
    → goes_on_until a.core.cluster extent ends (time a.core.cluster (past_of a.core)) (course_on now) ≡ false
    → AreExecuted a (extent_on a how extent ends) now × (ended_slot_count (extent_on a how extent ends) + rest ≡ left)
stopped a now how extent ends left n rest b h =
    let all : extent_on a how extent ends ≡ b.steps = b.whole ∙ ap (λ l. b.steps ++ l) (turn-stops _ _ _ how _ n (course_on now) h) ∙ append-nothing b.steps in
    (rw all b.made, rw all b.count)

-- all were made
pub ended : (a now : RuledData) (how : Disturbance) (extent : Extent) (ends : Course → Bool) (left rest : ℕ) → AreBegun a how extent ends left now 0 rest
    → AreExecuted a (extent_on a how extent ends) now × (ended_slot_count (extent_on a how extent ends) + rest ≡ left)
unfolding slots_steps
ended a now how extent ends left rest b =
    let all : extent_on a how extent ends ≡ b.steps = b.whole ∙ append-nothing b.steps in
    (rw all b.made, rw all b.count)

-- the next one can't be opened
refused-whole : (a now : RuledData) (how : Disturbance) (extent : Extent) (ends : Course → Bool) (left n rest : ℕ) (b : AreBegun a how extent ends left now (suc n) rest)
    → goes_on_until a.core.cluster extent ends (time a.core.cluster (past_of a.core)) (course_on now) ≡ true
    → is_opened (due_now now.core.cluster now.core.opening now.core.capacity (past_of now.core)) ≡ false
    → extent_on a how extent ends ≡ b.steps ++ slot_steps now.core.cluster now.core.opening now.core.capacity (way how now.rules.offs) (past_of now.core)
refused-whole a now how extent ends left n rest b goes shut =
    let closed = ap is_opened (sym (same-due a now b.steps b.made)) ∙ shut in
    b.whole ∙ ap (λ l. b.steps ++ l) (turn-refused _ _ _ how _ n (course_on now) goes closed ∙ append-nothing _ ∙ sym (same-slot a now (way how now.rules.offs) b.steps b.made))

pub refused : (a now new : RuledData) (how : Disturbance) (extent : Extent) (ends : Course → Bool) (left n rest : ℕ) → AreBegun a how extent ends left now (suc n) rest
    → goes_on_until a.core.cluster extent ends (time a.core.cluster (past_of a.core)) (course_on now) ≡ true
    → AreExecuted now (slot_steps now.core.cluster now.core.opening now.core.capacity (way how now.rules.offs) (past_of now.core)) new
    → is_opened (due_now now.core.cluster now.core.opening now.core.capacity (past_of now.core)) ≡ false
    → AreExecuted a (extent_on a how extent ends) new × (ended_slot_count (extent_on a how extent ends) + rest ≡ left)
refused a now new how extent ends left n rest b goes made shut =
    let one = slot_steps now.core.cluster now.core.opening now.core.capacity (way how now.rules.offs) (past_of now.core) in
    let all = refused-whole a now how extent ends left n rest b goes shut in
    let none : ended_slot_count one ≡ 0 = no-slot _ _ _ (way how now.rules.offs) (past_of now.core) shut in
    let count : ended_slot_count (b.steps ++ one) + rest ≡ left = let e = slots_in-append b.steps one in omega (arith, e, none, b.count) in
    (rw all (made-more a now new b.steps one b.made made), rw all count)

-- the next one was opened
turned : (a now new : RuledData) (how : Disturbance) (extent : Extent) (ends : Course → Bool) (n : ℕ) (xs steps : List (PortId × Step))
    → xs ≡ steps ++ turns a how extent ends (suc n) (course_on now) → AreExecuted a steps now
    → goes_on_until a.core.cluster extent ends (time a.core.cluster (past_of a.core)) (course_on now) ≡ true
    → AreExecuted now (slot_steps now.core.cluster now.core.opening now.core.capacity (way how now.rules.offs) (past_of now.core)) new
    → is_opened (due_now now.core.cluster now.core.opening now.core.capacity (past_of now.core)) ≡ true
    → xs ≡ (steps ++ slot_steps now.core.cluster now.core.opening now.core.capacity (way how now.rules.offs) (past_of now.core)) ++ turns a how extent ends n (course_on new)
turned a now new how extent ends n xs steps whole so_far goes made is_open =
    let one = slot_steps now.core.cluster now.core.opening now.core.capacity (way how now.rules.offs) (past_of now.core) in
    let same = same-slot a now (way how now.rules.offs) steps so_far in
    let is = ap is_opened (sym (same-due a now steps so_far)) ∙ is_open in
    let later : course_on new ≡ course_after a.core.cluster a.core.opening a.core.capacity (course_on now) (slot_steps a.core.cluster a.core.opening a.core.capacity (way how now.rules.offs) (past_of now.core)) =
    rw (so_far.alike.0, so_far.alike.1, so_far.alike.2) at made.course in
    whole ∙ ap (λ l. steps ++ l) (turn-opened _ _ _ how _ n (course_on now) goes is)
    ∙ ap (λ l. steps ++ (l ++ turns a how extent ends n (course_after a.core.cluster a.core.opening a.core.capacity (course_on now) (slot_steps a.core.cluster a.core.opening a.core.capacity (way how now.rules.offs) (past_of now.core))))) (sym same)
    ∙ ap (λ l. steps ++ (one ++ turns a how extent ends n l)) (sym later)
    ∙ sym (append_assoc steps one (turns a how extent ends n (course_on new)))

pub opened : (a now new : RuledData) (how : Disturbance) (extent : Extent) (ends : Course → Bool) (left n rest : ℕ) → AreBegun a how extent ends left now (suc n) (suc rest)
    → goes_on_until a.core.cluster extent ends (time a.core.cluster (past_of a.core)) (course_on now) ≡ true
    → AreExecuted now (slot_steps now.core.cluster now.core.opening now.core.capacity (way how now.rules.offs) (past_of now.core)) new
    → is_opened (due_now now.core.cluster now.core.opening now.core.capacity (past_of now.core)) ≡ true
    → AreBegun a how extent ends left new n rest
opened a now new how extent ends left n rest b goes made is_open =
    let one = slot_steps now.core.cluster now.core.opening now.core.capacity (way how now.rules.offs) (past_of now.core) in
    let one_ends : ended_slot_count one ≡ 1 = one-slot _ _ _ (way how now.rules.offs) (past_of now.core) is_open in
    record {
      steps = b.steps ++ one;
      made = made-more a now new b.steps one b.made made;
      whole = turned a now new how extent ends n _ b.steps b.whole b.made goes made is_open;
      first = turned a now new how extent ends rest _ b.steps b.first b.made goes made is_open;
      count = let e = slots_in-append b.steps one in omega (arith, e, one_ends, b.count);
    }

-- the steps of a slot that is opened, among those of a line
slot-among : (a now : RuledData) (how : Disturbance) (extent : Extent) (ends : Course → Bool) (n : ℕ) (xs steps : List (PortId × Step))
    → xs ≡ steps ++ turns a how extent ends (suc n) (course_on now) → AreExecuted a steps now
    → goes_on_until a.core.cluster extent ends (time a.core.cluster (past_of a.core)) (course_on now) ≡ true
    → is_opened (due_now now.core.cluster now.core.opening now.core.capacity (past_of now.core)) ≡ true
    → (more : List (PortId × Step)) × (xs ≡ steps ++ (slot_steps now.core.cluster now.core.opening now.core.capacity (way how now.rules.offs) (past_of now.core) ++ more))
slot-among a now how extent ends n xs steps whole so_far goes is_open =
    let one = slot_steps a.core.cluster a.core.opening a.core.capacity (way how now.rules.offs) (past_of now.core) in
    let is = ap is_opened (sym (same-due a now steps so_far)) ∙ is_open in
    let more = turns a how extent ends n (course_after a.core.cluster a.core.opening a.core.capacity (course_on now) one) in (
      more,
      whole ∙ ap (λ l. steps ++ l) (turn-opened _ _ _ how _ n (course_on now) goes is ∙ ap (λ l. l ++ more) (sym (same-slot a now (way how now.rules.offs) steps so_far))),
    )

-- it could be opened, and none was left
pub over : (a now : RuledData) (how : Disturbance) (extent : Extent) (ends : Course → Bool) (left n : ℕ) → AreBegun a how extent ends left now (suc n) 0
    → goes_on_until a.core.cluster extent ends (time a.core.cluster (past_of a.core)) (course_on now) ≡ true
    → is_opened (due_now now.core.cluster now.core.opening now.core.capacity (past_of now.core)) ≡ true
    → AreExecuted a (first_on a how extent ends left) now × (left < ended_slot_count (extent_on a how extent ends))
unfolding slots_steps
over a now how extent ends left n b goes is_open =
    let one = slot_steps now.core.cluster now.core.opening now.core.capacity (way how now.rules.offs) (past_of now.core) in
    let more = slot-among a now how extent ends n _ b.steps b.whole b.made goes is_open in
    let one_ends : ended_slot_count one ≡ 1 = one-slot _ _ _ (way how now.rules.offs) (past_of now.core) is_open in
    let all = ap ended_slot_count more.1 ∙ slots_in-append b.steps (one ++ more.0) in
    let two = slots_in-append one more.0 in
    let some : first_on a how extent ends left ≡ b.steps = b.first ∙ append-nothing b.steps in
    (rw some b.made, omega (arith, all, two, one_ends, b.count))

-- it couldn't be made
slot-fails : (fault : MakeFault) (a now : RuledData) (xs steps one more : List (PortId × Step)) → xs ≡ steps ++ (one ++ more) → AreExecuted a steps now
    → StepsFail fault now one → StepsFail fault a xs
slot-fails fault a now xs steps one more e made fails =
    subst (StepsFail fault a) (sym e) (fails-after fault a now steps (one ++ more) made (fails-before fault now one more fails))

no-room : (a now : RuledData) (how : Disturbance) (extent : Extent) (ends : Course → Bool) (left n rest : ℕ) (t : Bool) → AreBegun a how extent ends left now (suc n) rest
    → goes_on_until a.core.cluster extent ends (time a.core.cluster (past_of a.core)) (course_on now) ≡ true
    → is_opened (due_now now.core.cluster now.core.opening now.core.capacity (past_of now.core)) ≡ t → (t ≡ true → 0 < rest)
    → NoRoom now (slot_steps now.core.cluster now.core.opening now.core.capacity (way how now.rules.offs) (past_of now.core)) → SlotsFail LogFull a how extent ends left
no-room a now how extent ends left n zero true b goes is some full = absurd (let none = some refl in omega (arith, none))
no-room a now how extent ends left n (suc rest) true b goes is some full =
    let one = slot_steps now.core.cluster now.core.opening now.core.capacity (way how now.rules.offs) (past_of now.core) in
    let all = slot-among a now how extent ends n _ b.steps b.whole b.made goes is in
    let few = slot-among a now how extent ends rest _ b.steps b.first b.made goes is in
    (λ h. slot-fails LogFull a now _ b.steps one all.0 all.1 b.made full, λ h. slot-fails LogFull a now _ b.steps one few.0 few.1 b.made full)
no-room a now how extent ends left n rest false b goes is some full =
    let one = slot_steps now.core.cluster now.core.opening now.core.capacity (way how now.rules.offs) (past_of now.core) in
    let all = refused-whole a now how extent ends left n rest b goes is in
    let none : ended_slot_count one ≡ 0 = no-slot _ _ _ (way how now.rules.offs) (past_of now.core) is in (
      λ h. slot-fails LogFull a now _ b.steps one [] (all ∙ ap (λ l. b.steps ++ l) (sym (append-nothing one))) b.made full,
      λ h. absurd (let k = ap ended_slot_count all ∙ slots_in-append b.steps one in omega (arith, k, none, b.count, h)),
    )

-- ---- the same, as the code has it
pub next-stops : (a now : RuledData) (how : Disturbance) (extent : Extent) (ends : Course → Bool) (left n rest t : ℕ) → AreBegun a how extent ends left now n rest
    → t ≡ time a.core.cluster (past_of a.core) → goes_on_until now.core.cluster extent ends t (course_on now) ≡ false
    → AreExecuted a (extent_on a how extent ends) now × (ended_slot_count (extent_on a how extent ends) + rest ≡ left)
next-stops a now how extent ends left n rest t b e h = stopped a now how extent ends left n rest b (same-goes a now b.steps extent ends t false b.made e h)

one-left : (a now : RuledData) (how : Disturbance) (extent : Extent) (ends : Course → Bool) (left m n rest : ℕ) → AreBegun a how extent ends left now m rest → m ≡ n + 1
    → AreBegun a how extent ends left now (suc n) rest
one-left a now how extent ends left m n rest b e = subst (λ k. AreBegun a how extent ends left now k rest) (e ∙ add-one n) b

pub next-refused : (a now new : RuledData) (how : Disturbance) (extent : Extent) (ends : Course → Bool) (left m n rest t : ℕ) → AreBegun a how extent ends left now m rest
    → m ≡ n + 1 → t ≡ time a.core.cluster (past_of a.core) → goes_on_until now.core.cluster extent ends t (course_on now) ≡ true
    → AreExecuted now (slot_steps now.core.cluster now.core.opening now.core.capacity (way how now.rules.offs) (past_of now.core)) new
    → is_opened (due_now now.core.cluster now.core.opening now.core.capacity (past_of now.core)) ≡ false
    → AreExecuted a (extent_on a how extent ends) new × (ended_slot_count (extent_on a how extent ends) + rest ≡ left)
next-refused a now new how extent ends left m n rest t b em e h made shut =
    refused a now new how extent ends left n rest (one-left a now how extent ends left m n rest b em) (same-goes a now b.steps extent ends t true b.made e h) made shut

one-more : (a now : RuledData) (how : Disturbance) (extent : Extent) (ends : Course → Bool) (left n many rest : ℕ) → AreBegun a how extent ends left now n many → many ≡ rest + 1
    → AreBegun a how extent ends left now n (suc rest)
one-more a now how extent ends left n many rest b e = subst (λ k. AreBegun a how extent ends left now n k) (e ∙ add-one rest) b

pub next-opened : (a now new : RuledData) (how : Disturbance) (extent : Extent) (ends : Course → Bool) (left m n many rest t : ℕ) → AreBegun a how extent ends left now m many
    → m ≡ n + 1 → many ≡ rest + 1 → t ≡ time a.core.cluster (past_of a.core) → goes_on_until now.core.cluster extent ends t (course_on now) ≡ true
    → AreExecuted now (slot_steps now.core.cluster now.core.opening now.core.capacity (way how now.rules.offs) (past_of now.core)) new
    → is_opened (due_now now.core.cluster now.core.opening now.core.capacity (past_of now.core)) ≡ true
    → AreBegun a how extent ends left new n rest
next-opened a now new how extent ends left m n many rest t b em er e h made is_open =
    opened a now new how extent ends left n rest
    (one-more a now how extent ends left (suc n) many rest (one-left a now how extent ends left m n many b em) er)
    (same-goes a now b.steps extent ends t true b.made e h) made is_open

pub next-over : (a now : RuledData) (how : Disturbance) (extent : Extent) (ends : Course → Bool) (left m n none t : ℕ) → AreBegun a how extent ends left now m none
    → m ≡ n + 1 → none ≡ 0 → t ≡ time a.core.cluster (past_of a.core) → goes_on_until now.core.cluster extent ends t (course_on now) ≡ true
    → is_opened (due_now now.core.cluster now.core.opening now.core.capacity (past_of now.core)) ≡ true
    → AreExecuted a (first_on a how extent ends left) now × (left < ended_slot_count (extent_on a how extent ends))
next-over a now how extent ends left m n none t b em er e h is_open =
    over a now how extent ends left n
    (subst (λ r. AreBegun a how extent ends left now (suc n) r) er (one-left a now how extent ends left m n none b em))
    (same-goes a now b.steps extent ends t true b.made e h) is_open

pub next-fails : (fault : MakeFault) (a now new : RuledData) (how : Disturbance) (extent : Extent) (ends : Course → Bool) (left m n rest t : ℕ) → AreBegun a how extent ends left now m rest
    → m ≡ n + 1 → t ≡ time a.core.cluster (past_of a.core) → goes_on_until now.core.cluster extent ends t (course_on now) ≡ true
    → (is_opened (due_now now.core.cluster now.core.opening now.core.capacity (past_of now.core)) ≡ true → 0 < rest)
    → StepsFail fault now (slot_steps now.core.cluster now.core.opening now.core.capacity (way how now.rules.offs) (past_of now.core)) × IsGrown now.core new.core
    → SlotsFail fault a how extent ends left × IsGrown a.core new.core
next-fails LogFull a now new how extent ends left m n rest t b em e h some (full, grown) = (
  no-room a now how extent ends left n rest _ (one-left a now how extent ends left m n rest b em) (same-goes a now b.steps extent ends t true b.made e h) refl some full,
  grown-more a.core now.core new.core (grown-made a now b.steps b.made) grown,
)
next-fails OutOfMemory a now new how extent ends left m n rest t b em e h some (none, grown) =
    (tt, grown-more a.core now.core new.core (grown-made a now b.steps b.made) grown)

pub all-made : (a now : RuledData) (how : Disturbance) (extent : Extent) (ends : Course → Bool) (left n rest : ℕ) → AreBegun a how extent ends left now n rest → n ≡ 0
    → AreExecuted a (extent_on a how extent ends) now × (ended_slot_count (extent_on a how extent ends) + rest ≡ left)
all-made a now how extent ends left n rest b e = ended a now how extent ends left rest (subst (λ k. AreBegun a how extent ends left now k rest) e b)
