-- Walks over logs, and how long answers took.
use Rattle.std.proofs.Common.{◌≡◌, ◌∙◌, ℕ, suc, zero, ◌+◌, ◌-◌, ◌<◌, ◌≤◌, ◌&&◌, Bool, true, false, not, Option, cond, List, [], ◌∷◌, ◌++◌, Some, None, refl, sym, ap, arith, append_assoc, add-one, zero-add, drop, drop-cons, get_or, length, length-append, map, reverse, take}
use Rattle.std.specs.Prelude.{count_by, filter, flat_map, slice_get, slice_index}
use Rattle.std.proofs.lemmas.List.{length-map, reverse-append, take-append-drop, take_all, take_more, get_or_default}
use Rattle.std.proofs.lemmas.List.Sums.{length-filter, sum_by-append}
use Rattle.std.specs.List.{list_any}
use Rattle.std.specs.Option.{option_map_or, option_or, unwrap_or}
use Rattle.lin_parts.specs.Cluster.{line_of}
use Rattle.lin_parts.specs.declared.parts.Parts.{Parts}
use Rattle.lin_core.specs.History.{Slot, did, done, events, finished_slot, is_finish, open_slot, slot_after_event, slot_after_events, time}
use Rattle.lin_core.specs.declared.event.Event.{Event}
use Rattle.lin_core.specs.declared.log.LogEntry.{LogEntry}
use Rattle.lin_core.specs.declared.step.Step.{Step}
use Rattle.lin_bench.specs.Arrivals.{delay_told, time_since, whole}
use Rattle.lin_bench.specs.declared.arrivals.Walk.{Walk}
use Rattle.lin_bench.specs.Verdicts.{all_events, is_of_kind, last_time, times_taken}
use Rattle.lin_bench.specs.declared.taken.EventKind.{EventKind}
use Rattle.lin_bench.proofs.Events.{events-of-log}
use Rattle.lin_bench.proofs.Makes.{append-nothing}

-- a slot after one event more
pub one-event : (es : List Event) (e : Event) (s : Slot) → slot_after_events (es ++ e ∷ []) s ≡ slot_after_event e (slot_after_events es s)
one-event [] e s = refl
one-event (x ∷ es) e s = one-event es e (slot_after_event x s)

-- how long the answers of an entry took
abbrev pub times-of : Parts → (Event → Bool) → EventKind → List LogEntry → LogEntry → List ℕ
times-of c request answer past e = map (λ event. time c (e ∷ past) - last_time c request past) (filter (is_of_kind answer) (events e))

-- how long answers took of entries after a history, the oldest first
abbrev pub times-after : Parts → (Event → Bool) → EventKind → List LogEntry → List LogEntry → List ℕ
times-after c request answer past [] = []
times-after c request answer past (e ∷ es) = times-of c request answer past e ++ times-after c request answer (e ∷ past) es

split-times : (c : Parts) (request : Event → Bool) (answer : EventKind) (past es : List LogEntry)
    → times_taken c request answer (reverse es ++ past) ≡ times_taken c request answer past ++ times-after c request answer past es
split-times c request answer past [] = sym (append-nothing (times_taken c request answer past))
split-times c request answer past (e ∷ es) =
    ap (λ l. times_taken c request answer (l ++ past)) (reverse-append (e ∷ []) es)
    ∙ ap (times_taken c request answer) (append_assoc (reverse es) (e ∷ []) past)
    ∙ split-times c request answer (e ∷ past) es
    ∙ append_assoc (times_taken c request answer past) (times-of c request answer past e) (times-after c request answer (e ∷ past) es)

split-at : (c : Parts) (request : Event → Bool) (answer : EventKind) (es : List LogEntry) (i : ℕ)
    → times_taken c request answer (reverse es)
    ≡ times_taken c request answer (reverse (take i es)) ++ times-after c request answer (reverse (take i es)) (drop i es)
split-at c request answer es i =
    ap (λ l. times_taken c request answer (reverse l)) (sym (take-append-drop i es))
    ∙ ap (times_taken c request answer) (reverse-append (take i es) (drop i es))
    ∙ split-times c request answer (reverse (take i es)) (drop i es)

-- there are as many as answers
as-many : (c : Parts) (request : Event → Bool) (answer : EventKind) (past : List LogEntry)
    → length (times_taken c request answer past) ≡ count_by (is_of_kind answer) (all_events past)
as-many c request answer [] = refl
as-many c request answer (e ∷ past) =
    let kept = filter (is_of_kind answer) (events e) in
    let here : length (times-of c request answer past e) ≡ count_by (is_of_kind answer) (events e) =
    length-map kept (λ event. time c (e ∷ past) - last_time c request past) ∙ length-filter (is_of_kind answer) (events e) in
    length-append (times_taken c request answer past) (times-of c request answer past e)
    ∙ ap (λ n. n + length (times-of c request answer past e)) (as-many c request answer past)
    ∙ ap (λ n. count_by (is_of_kind answer) (all_events past) + n) here
    ∙ sym (sum_by-append (λ x. cond (is_of_kind answer x) 1 0) (all_events past) (events e))

as-many-in : (c : Parts) (request : Event → Bool) (answer : EventKind) (es : List LogEntry)
    → length (times_taken c request answer (reverse es)) ≡ count_by (is_of_kind answer) (flat_map events es)
as-many-in c request answer es = as-many c request answer (reverse es) ∙ ap (count_by (is_of_kind answer)) (events-of-log es)

after-others : (xs ys : List ℕ) (k : ℕ) → slice_index (xs ++ ys) (length xs + k) ≡ slice_index ys k
after-others [] ys k = ap (slice_index ys) (zero-add k)
after-others (x ∷ xs) ys k =
    let e : suc (length xs) + k ≡ suc (length xs + k) = omega arith in
    ap (slice_index (x ∷ (xs ++ ys))) e ∙ after-others xs ys k

pub beyond : (xs : List ℕ) (n : ℕ) → length xs ≤ n → slice_index xs n ≡ 0
beyond [] n h = refl
beyond (x ∷ xs) zero h = absurd (omega arith)
beyond (x ∷ xs) (suc n) h = beyond xs n (omega arith)

all-alike : (es : List Event) (v : ℕ) (rest : List ℕ) (k : ℕ) (x : Event) → slice_get es k ≡ Some x → slice_index (map (λ e. v) es ++ rest) k ≡ v
all-alike [] v rest k x h = cc
all-alike (e ∷ es) v rest zero x h = refl
all-alike (e ∷ es) v rest (suc k) x h = all-alike es v rest k x h

-- how long the answer took that an entry tells of, after so many others
pub found-time : (c : Parts) (request : Event → Bool) (answer : EventKind) (es : List LogEntry) (i : ℕ) (e : LogEntry) (told : List Event) (k : ℕ) (x : Event) → i < length es
    → e ≡ get_or es i e → told ≡ events e → slice_get (filter (is_of_kind answer) told) k ≡ Some x
    → slice_index (times_taken c request answer (reverse es)) (count_by (is_of_kind answer) (flat_map events (take i es)) + k)
    ≡ time c (e ∷ reverse (take i es)) - last_time c request (reverse (take i es))
found-time c request answer es i e told k x h is same found =
    let past = reverse (take i es) in
    let rest = drop (suc i) es in
    let v = time c (e ∷ past) - last_time c request past in
    let here : drop i es ≡ e ∷ rest = drop-cons es i e h ∙ ap (λ x. x ∷ rest) (sym is) in
    ap (λ l. slice_index l (count_by (is_of_kind answer) (flat_map events (take i es)) + k)) (split-at c request answer es i)
    ∙ ap (λ n. slice_index (times_taken c request answer past ++ times-after c request answer past (drop i es)) (n + k)) (sym (as-many-in c request answer (take i es)))
    ∙ after-others (times_taken c request answer past) (times-after c request answer past (drop i es)) k
    ∙ ap (λ l. slice_index (times-after c request answer past l) k) here
    ∙ all-alike (filter (is_of_kind answer) (events e)) v (times-after c request answer (e ∷ past) rest) k x (rw same at found)

-- where no answer is left there is no time
pub no-time : (c : Parts) (request : Event → Bool) (answer : EventKind) (es : List LogEntry) (i k : ℕ) → length es ≤ i
    → slice_index (times_taken c request answer (reverse es)) (count_by (is_of_kind answer) (flat_map events (take i es)) + k) ≡ 0
no-time c request answer es i k h =
    ap (λ l. slice_index (times_taken c request answer (reverse es)) (count_by (is_of_kind answer) (flat_map events l) + k)) (take_all i es h)
    ∙ beyond (times_taken c request answer (reverse es)) (count_by (is_of_kind answer) (flat_map events es) + k) (omega (arith, as-many-in c request answer es))

pub or-else : (a b : Option (ℕ × ℕ)) (d : ℕ × ℕ) → unwrap_or a (unwrap_or b d) ≡ unwrap_or (option_or a b) d
or-else (Some x) b d = refl
or-else None b d = refl

-- ---- the time since the last request
last-before : (c : Parts) (kind : Event → Bool) (past : List LogEntry) (b : Bool) (e : LogEntry) → list_any kind (events e) ≡ b → last_time c kind past ≤ time c past
    → time c past ≤ time c (e ∷ past) → last_time c kind (e ∷ past) ≤ time c (e ∷ past)
last-before c kind past true e h last grows = rw h (omega arith)
last-before c kind past false e h last grows = rw h (omega (arith, last, grows))

by-slot : (c : Parts) (t : ℕ) (o : Option Slot) → option_map_or (λ s. t + (line_of c s.table s.entry).delay_us) o t ≡ t + delay_told c None o
by-slot c t None = omega arith
by-slot c t (Some s) = refl

slot-time : (c : Parts) (past : List LogEntry) (e : LogEntry) → time c (e ∷ past) ≡ time c past + delay_told c None (finished_slot e past)
slot-time c past e = by-slot c (time c past) (finished_slot e past)

last-time : (c : Parts) (kind : Event → Bool) (past : List LogEntry) → last_time c kind past ≤ time c past
last-time c kind [] = omega arith
last-time c kind (e ∷ past) =
    let grows = slot-time c past e in
    last-before c kind past (list_any kind (events e)) e refl (last-time c kind past) (omega (arith, grows))

pub by-done : (past : List LogEntry) (d : Option Step) → option_map_or is_finish d false ≡ true → option_map_or (λ step. cond (is_finish step) (open_slot past) None) d None ≡ open_slot past
by-done past None h = absurd (cc)
by-done past (Some step) h = rw h refl

pub not-done : (past : List LogEntry) (d : Option Step) → option_map_or is_finish d false ≡ false → option_map_or (λ step. cond (is_finish step) (open_slot past) None) d None ≡ None
not-done past None h = refl
not-done past (Some step) h = rw h refl

-- a finish adds its slot to it
pub since-finish : (c : Parts) (request : Event → Bool) (past : List LogEntry) (e : LogEntry) → did is_finish e ≡ true → list_any request (events e) ≡ false
    → delay_told c None (open_slot past) + time_since c request past ≡ time_since c request (e ∷ past)
since-finish c request past e fin none =
    let grows = slot-time c past e ∙ ap (λ o. time c past + delay_told c None o) (by-done past (done e) fin) in
    let last = last-time c request past in
    rw none (omega (arith, grows, last))

-- ---- a walk from an entry back finds it whole
pub whole-answer : (c : Parts) (request : Event → Bool) (past : List LogEntry) (e : LogEntry) (b : Bool) → did is_finish e ≡ b
    → whole c request (record { time = 0; finishes = did is_finish e; told = None; asked = false }) past ≡ time c (e ∷ past) - last_time c request past
whole-answer c request past e true fin =
    let grows = slot-time c past e ∙ ap (λ o. time c past + delay_told c None o) (by-done past (done e) fin) in
    let last = last-time c request past in
    rw fin (omega (arith, grows, last))
whole-answer c request past e false fin =
    let grows = slot-time c past e ∙ ap (λ o. time c past + delay_told c None o) (not-done past (done e) fin) in
    let last = last-time c request past in
    rw fin (omega (arith, grows, last))

over-by : (t l s : ℕ) (f a : Bool) → (a && not f) ≡ true → t + (cond f l 0 + cond a 0 s) ≡ t
over-by t l s true true h = absurd (cc)
over-by t l s false true h = omega arith
over-by t l s f false h = absurd (cc)

pub over : (c : Parts) (request : Event → Bool) (w : Walk) (past : List LogEntry) → (w.asked && not w.finishes) ≡ true → whole c request w past ≡ w.time
over c request w past h = over-by w.time (delay_told c w.told (open_slot past)) (time_since c request past) w.finishes w.asked h

first-by : (t : ℕ) (f a : Bool) → t + (cond f 0 0 + cond a 0 0) ≡ t
first-by t true true = omega arith
first-by t true false = omega arith
first-by t false true = omega arith
first-by t false false = omega arith

pub at-first : (c : Parts) (request : Event → Bool) (w : Walk) → whole c request w [] ≡ w.time
at-first c request w = first-by w.time w.finishes w.asked

pub one-back : (es : List LogEntry) (n : ℕ) (e : LogEntry) → n < length es → e ≡ get_or es n e → reverse (take (n + 1) es) ≡ e ∷ reverse (take n es)
one-back es n e h is = ap reverse (take_more es n e h ∙ ap (λ x. take n es ++ x ∷ []) (sym is)) ∙ reverse-append (take n es) (e ∷ [])

-- an entry that a place has, whatever stands for none
pub same-entry : (es : List LogEntry) (i : ℕ) (a b : LogEntry) → i < length es → a ≡ get_or es i a → b ≡ get_or es i b → a ≡ b
same-entry es i a b h p q = p ∙ get_or_default es i a b h ∙ sym q

-- a walk from an entry that has found it whole
pub walked : (c : Parts) (request : Event → Bool) (es : List LogEntry) (i n : ℕ) (x e : LogEntry) (first last : Walk) → i < length es → x ≡ get_or es i x → e ≡ get_or es i e
    → first ≡ record { time = 0; finishes = did is_finish x; told = None; asked = false }
    → whole c request last (reverse (take n es)) ≡ whole c request first (reverse (take i es)) → whole c request last (reverse (take n es)) ≡ last.time
    → last.time ≡ time c (e ∷ reverse (take i es)) - last_time c request (reverse (take i es))
walked c request es i n x e first last h p q begins keeps ends =
    let is = same-entry es i x e h p q in
    sym ends ∙ keeps ∙ ap (λ w. whole c request w (reverse (take i es))) (begins ∙ ap (λ y. record { time = 0; finishes = did is_finish y; told = None; asked = false }) is)
    ∙ whole-answer c request (reverse (take i es)) e (did is_finish e) refl
