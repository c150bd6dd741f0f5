-- What a reader of a log keeps of a slot, and the slots that it read.
use Rattle.std.proofs.Common.{◌≡◌, ◌≢◌, ◌⊎◌, ◌∙◌, ℕ, suc, Bool, true, false, ◌==◌, ◌||◌, ◌+◌, ◌<◌, ◌≤◌, min, List, [], ◌∷◌, ◌++◌, refl, sym, ap, arith, get_or, get_or-set_other, get_or-set_same, inl, inr, length, length-append, length-set, map, set, eqb, if◌then◌else◌, leb, ltb}
use Rattle.std.proofs.lemmas.Bool.Decides.{eqb_tells, leb_tells}
use Rattle.std.proofs.lemmas.List.{get_or-map, length-map, same_lists}
use Rattle.std.proofs.lemmas.List.Folds.{list_any-append}
use Rattle.std.specs.Prelude.{Option, Some, None, find, option_map, slice_get}
use Rattle.std.specs.Option.{option_or}
use Rattle.lin_frame.specs.Words.{numbers}
use Rattle.lin_core.specs.History.{Slot, first_node, open_slot, slot_after_event, slot_after_events, slot_after_hurt}
use Rattle.lin_core.specs.declared.event.Event.{Event}
use Rattle.lin_core.specs.declared.event.Event.TheVariants.{Put}
use Rattle.lin_core.specs.declared.log.LogEntry.{LogEntry}
use Rattle.lin_core.specs.declared.reply.Reply.TheVariants.{Done}
use Rattle.lin_core.specs.declared.step.Step.TheVariants.{Answer, Hurt}
use Rattle.lin_tool.specs.campaign.Slots.{has_responded, kept_of_slot}
use Rattle.lin_tool.specs.declared.campaign.finished_slots.KeptSlot.{KeptSlot}
use Rattle.lin_tool.proofs.CampaignRows.{length-numbers, number-at}

-- ---- one response more
eqb-other-by : (m n : ℕ) → n ≢ m → ((eqb m n ≡ true) × (m ≡ n)) ⊎ ((eqb m n ≡ false) × (m ≢ n)) → (m == n) ≡ false
eqb-other-by m n h (inl e) = absurd (h (sym e.1))
eqb-other-by m n h (inr e) = e.0

eqb-other : (m n : ℕ) → n ≢ m → (m == n) ≡ false
eqb-other m n h = eqb-other-by m n h (eqb_tells m n)

or-false : (b : Bool) → (b || (false || false)) ≡ b
or-false true = refl
or-false false = refl

or-true : (b : Bool) → (b || (true || false)) ≡ true
or-true true = refl
or-true false = refl

responded-same : (s : Slot) (node : ℕ) (answer : List ℕ) (k : ℕ) → k ≢ node → has_responded (slot_after_event (Put node answer) s) k ≡ has_responded s k
responded-same s node answer k other =
    list_any-append (λ (p : ℕ × List ℕ). p.0 == k) s.puts ((node, answer) ∷ [])
    ∙ ap (λ b. has_responded s k || (b || false)) (eqb-other node k other) ∙ or-false (has_responded s k)

eqb-itself-by : (n : ℕ) → ((eqb n n ≡ true) × (n ≡ n)) ⊎ ((eqb n n ≡ false) × (n ≢ n)) → (n == n) ≡ true
eqb-itself-by n (inl e) = e.0
eqb-itself-by n (inr e) = absurd (e.1 refl)

eqb-itself : (n : ℕ) → (n == n) ≡ true
eqb-itself n = eqb-itself-by n (eqb_tells n n)

responded-now : (s : Slot) (node : ℕ) (answer : List ℕ) → has_responded (slot_after_event (Put node answer) s) node ≡ true
responded-now s node answer =
    list_any-append (λ (p : ℕ × List ℕ). p.0 == node) s.puts ((node, answer) ∷ [])
    ∙ ap (λ b. has_responded s node || (b || false)) (eqb-itself node) ∙ or-true (has_responded s node)

-- the values of a function at the first numbers
length-first : {X : Type 0} (f : ℕ → X) (m : ℕ) → length (map f (numbers m)) ≡ m
length-first f m = length-map (numbers m) f ∙ length-numbers m

pub at-number : {X : Type 0} (f : ℕ → X) (m k : ℕ) (d : X) → k < m → get_or (map f (numbers m)) k d ≡ f k
at-number f m k d h =
    let few : k < length (numbers m) = omega (arith, length-numbers m) in
    get_or-map f (numbers m) k 0 d few ∙ ap f (number-at m k 0 h)

set-by : (f g : ℕ → Bool) (m node k : ℕ) (d : Bool) → node < m → k < m → g node ≡ true → ((n : ℕ) → n ≢ node → g n ≡ f n)
    → ((eqb k node ≡ true) × (k ≡ node)) ⊎ ((eqb k node ≡ false) × (k ≢ node))
    → get_or (set (map f (numbers m)) node true) k d ≡ get_or (map g (numbers m)) k d
set-by f g m node k d h small now other (inl e) =
    rw e.1 (get_or-set_same (map f (numbers m)) node true d (omega (arith, length-first f m)) ∙ sym now ∙ sym (at-number g m node d h))
set-by f g m node k d h small now other (inr e) =
    get_or-set_other (map f (numbers m)) node k true d e.1 ∙ at-number f m k d small ∙ sym (other k e.1) ∙ sym (at-number g m k d small)

pub set-number : (f g : ℕ → Bool) (m node : ℕ) → node < m → g node ≡ true → ((k : ℕ) → k ≢ node → g k ≡ f k)
    → set (map f (numbers m)) node true ≡ map g (numbers m)
set-number f g m node h now other =
    same_lists (set (map f (numbers m)) node true) (map g (numbers m)) (length-set (map f (numbers m)) node true ∙ length-first f m ∙ sym (length-first g m))
    (λ k d few. set-by f g m node k d h (omega (arith, length-set (map f (numbers m)) node true, length-first f m)) now other (eqb_tells k node))

pub same-numbers : (f g : ℕ → Bool) (m : ℕ) → ((k : ℕ) → k < m → g k ≡ f k) → map f (numbers m) ≡ map g (numbers m)
same-numbers f g m same =
    same_lists (map f (numbers m)) (map g (numbers m)) (length-first f m ∙ sym (length-first g m))
    (λ k d few. let small : k < m = omega (arith, length-first f m) in at-number f m k d small ∙ sym (same k small) ∙ sym (at-number g m k d small))

pub answered-set : (s : Slot) (node : ℕ) (answer : List ℕ) → node < 16
    → set (map (has_responded s) (numbers 16)) node true ≡ map (has_responded (slot_after_event (Put node answer) s)) (numbers 16)
answered-set s node answer h =
    set-number (has_responded s) (has_responded (slot_after_event (Put node answer) s)) 16 node h (responded-now s node answer) (responded-same s node answer)

pub answered-same : (s : Slot) (node : ℕ) (answer : List ℕ) → 16 ≤ node
    → map (has_responded s) (numbers 16) ≡ map (has_responded (slot_after_event (Put node answer) s)) (numbers 16)
answered-same s node answer h =
    same-numbers (has_responded s) (has_responded (slot_after_event (Put node answer) s)) 16
    (λ k small. responded-same s node answer k (λ e. absurd (omega (arith, e))))

pub first-put : (puts : List (ℕ × List ℕ)) (node : ℕ) (answer : List ℕ)
    → option_or (option_map (λ (p : ℕ × List ℕ). p.0) (slice_get puts 0)) (Some node) ≡ option_map (λ (p : ℕ × List ℕ). p.0) (slice_get (puts ++ (node, answer) ∷ []) 0)
first-put [] node answer = refl
first-put (p ∷ ps) node answer = refl

pub count-put : (puts : List (ℕ × List ℕ)) (p : ℕ × List ℕ) → min (min (length puts) 255 + 1) 255 ≡ min (length (puts ++ p ∷ [])) 255
count-put puts p = let l = length-append puts (p ∷ []) in omega arith

-- what is kept after one response more
pub kept-put : (s : Slot) (node : ℕ) (answer : List ℕ) (k : KeptSlot) (answered : List Bool) (first : Option ℕ) (responses : ℕ) → k ≡ kept_of_slot s
    → answered ≡ map (has_responded (slot_after_event (Put node answer) s)) (numbers 16)
    → first ≡ option_or k.first (Some node) → responses ≡ min (k.responses + 1) 255
    → record k { answered = answered; first = first; responses = responses } ≡ kept_of_slot (slot_after_event (Put node answer) s)
kept-put s node answer k answered first responses is all one count =
    let first-is : first ≡ first_node (slot_after_event (Put node answer) s) = one ∙ ap (λ (x : KeptSlot). option_or x.first (Some node)) is ∙ first-put s.puts node answer in
    let count-is : responses ≡ min (length (s.puts ++ (node, answer) ∷ [])) 255 = count ∙ ap (λ (x : KeptSlot). min (x.responses + 1) 255) is ∙ count-put s.puts (node, answer) in
    rw (is, all, first-is, count-is) refl

answered-if : (s : Slot) (node : ℕ) (answer : List ℕ) → ((leb (suc node) 16 ≡ true) × (suc node ≤ 16)) ⊎ ((leb (suc node) 16 ≡ false) × (16 < suc node))
    → (if ltb node 16 then set (map (has_responded s) (numbers 16)) node true else map (has_responded s) (numbers 16))
    ≡ map (has_responded (slot_after_event (Put node answer) s)) (numbers 16)
answered-if s node answer (inl e) =
    ap (λ b. if b then set (map (has_responded s) (numbers 16)) node true else map (has_responded s) (numbers 16)) e.0 ∙ answered-set s node answer e.1
answered-if s node answer (inr e) =
    ap (λ b. if b then set (map (has_responded s) (numbers 16)) node true else map (has_responded s) (numbers 16)) e.0
    ∙ answered-same s node answer (omega (arith, e.1))

pub answered-by : (s : Slot) (node : ℕ) (answer : List ℕ) (k : KeptSlot) (r : List Bool) → k ≡ kept_of_slot s
    → r ≡ (if ltb node 16 then set k.answered node true else k.answered)
    → r ≡ map (has_responded (slot_after_event (Put node answer) s)) (numbers 16)
answered-by s node answer k r is e = e ∙ ap (λ (x : KeptSlot). if ltb node 16 then set x.answered node true else x.answered) is ∙ answered-if s node answer (leb_tells (suc node) 16)

-- ---- the frame
pub find-nothing : (xs : List ℕ) → find (λ f. false) xs ≡ None
find-nothing [] = refl
find-nothing (x ∷ xs) = find-nothing xs

-- ---- what a reader reads
some-same : {X : Type 0} (x y : X) → Some x ≡ Some y → x ≡ y
some-same x y e = cc

answer-by : (o : Option Slot) (events : List Event) (old new : KeptSlot) → Some old ≡ option_map kept_of_slot o
    → ((s : Slot) → old ≡ kept_of_slot s → new ≡ kept_of_slot (slot_after_events events s)) → Some new ≡ option_map kept_of_slot (option_map (slot_after_events events) o)
answer-by None events old new is tells = absurd (cc)
answer-by (Some s) events old new is tells = ap Some (tells s (some-same old (kept_of_slot s) is))

pub after-answer : (e : LogEntry) (past : List LogEntry) (events : List Event) (node : ℕ) (old new : KeptSlot) → e.reply ≡ Done events → e.step ≡ Answer node
    → Some old ≡ option_map kept_of_slot (open_slot past) → ((s : Slot) → old ≡ kept_of_slot s → new ≡ kept_of_slot (slot_after_events events s)) → Some new ≡ option_map kept_of_slot (open_slot (e ∷ past))
after-answer e past events node old new reply step is tells = rw (reply, step) (answer-by (open_slot past) events old new is tells)

hurt-by : (o : Option Slot) (old : KeptSlot) → Some old ≡ option_map kept_of_slot o → Some (record old { is_hurt = true }) ≡ option_map kept_of_slot (option_map slot_after_hurt o)
hurt-by None old is = absurd (cc)
hurt-by (Some s) old is = rw (some-same old (kept_of_slot s) is) refl

pub after-hurt : (e : LogEntry) (past : List LogEntry) (events : List Event) (bytes : List ℕ) (old : KeptSlot) → e.reply ≡ Done events → e.step ≡ Hurt bytes
    → Some old ≡ option_map kept_of_slot (open_slot past) → Some (record old { is_hurt = true }) ≡ option_map kept_of_slot (open_slot (e ∷ past))
after-hurt e past events bytes old reply step is = rw (reply, step) (hurt-by (open_slot past) old is)
