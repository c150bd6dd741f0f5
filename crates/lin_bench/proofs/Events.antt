-- Events of a log.
use Rattle.std.proofs.Common.{◌≡◌, ◌∙◌, ℕ, suc, zero, ◌+◌, ◌<◌, ◌≤◌, Bool, true, false, cond, List, [], ◌∷◌, ◌++◌, reverse, length, take, drop, get_or, refl, sym, ap, arith, append_assoc, add-one, zero-add, drop-cons, Option, Some, None}
use Rattle.std.specs.Prelude.{count_by, filter, find, flat_map, slice_get}
use Rattle.std.proofs.lemmas.List.{reverse-append, take-append-drop, take_more}
use Rattle.std.proofs.lemmas.List.Sums.{length-filter, sum_by-append, sum_by-cons}
use Rattle.std.proofs.lemmas.List.Elements.{filter-append}
use Rattle.std.proofs.lemmas.List.Folds.{find-append}
use Rattle.std.proofs.lemmas.Grind.{flat_map-append}
use Rattle.std.specs.List.{cons_option, filter_map}
use Rattle.std.specs.Option.{option_map_or, option_or}
use Rattle.lin_core.specs.History.{events}
use Rattle.lin_core.specs.declared.event.Event.{Event}
use Rattle.lin_core.specs.declared.log.LogEntry.{LogEntry}
use Rattle.lin_bench.specs.Verdicts.{all_events, is_of_kind, kind_of, same_kind}
use Rattle.lin_bench.specs.declared.taken.EventKind.{EventKind}
use Rattle.lin_bench.proofs.Makes.{append-nothing}

-- ---- kinds of events
one-kind : (kind : EventKind) (o : Option EventKind) (ks : List EventKind)
    → cond (option_map_or (same_kind kind) o false) 1 0 + count_by (same_kind kind) ks ≡ count_by (same_kind kind) (cons_option o ks)
one-kind kind None ks = zero-add (count_by (same_kind kind) ks)
one-kind kind (Some k) ks = sym (sum_by-cons (λ x. cond (same_kind kind x) 1 0) k ks)

-- the events of a kind are as many as the kinds of all events have it
pub count-kinds : (kind : EventKind) (es : List Event) → count_by (is_of_kind kind) es ≡ count_by (same_kind kind) (filter_map kind_of es)
count-kinds kind [] = refl
count-kinds kind (e ∷ es) =
    sum_by-cons (λ x. cond (is_of_kind kind x) 1 0) e es ∙ ap (λ n. cond (is_of_kind kind e) 1 0 + n) (count-kinds kind es) ∙ one-kind kind (kind_of e) (filter_map kind_of es)

-- ---- a log
events-oldest : (ps : List LogEntry) (e : LogEntry) → all_events (ps ++ e ∷ []) ≡ events e ++ all_events ps
events-oldest [] e = sym (append-nothing (events e))
events-oldest (p ∷ ps) e = ap (λ l. l ++ events p) (events-oldest ps e) ∙ append_assoc (events e) (all_events ps) (events p)

-- the events of a log
pub events-of-log : (es : List LogEntry) → all_events (reverse es) ≡ flat_map events es
events-of-log [] = refl
events-of-log (e ∷ es) =
    ap all_events (reverse-append (e ∷ []) es) ∙ events-oldest (reverse es) e ∙ ap (λ l. events e ++ l) (events-of-log es)

-- ---- an event after others
-- the events of a kind from an entry on
pub from-entry : (kind : EventKind) (es : List LogEntry) (i : ℕ) (e : LogEntry) (told : List Event) (k : ℕ) → i < length es → e ≡ get_or es i e
    → told ≡ events e
    → slice_get (filter (is_of_kind kind) (flat_map events (drop i es))) k
    ≡ slice_get (filter (is_of_kind kind) told ++ filter (is_of_kind kind) (flat_map events (drop (i + 1) es))) k
from-entry kind es i e told k h is same =
    let rest = drop (i + 1) es in
    let here : drop i es ≡ e ∷ rest = drop-cons es i e h ∙ ap (λ x. x ∷ drop (suc i) es) (sym is) ∙ ap (λ j. e ∷ drop j es) (sym (add-one i)) in
    ap (λ l. slice_get (filter (is_of_kind kind) (flat_map events l)) k) here
    ∙ ap (λ l. slice_get l k) (filter-append (is_of_kind kind) (events e) (flat_map events rest))
    ∙ ap (λ l. slice_get (filter (is_of_kind kind) l ++ filter (is_of_kind kind) (flat_map events rest)) k) (sym same)

dropped : {A : Type 0} (xs : List A) (i : ℕ) → length xs ≤ i → drop i xs ≡ []
dropped [] zero h = refl
dropped [] (suc i) h = refl
dropped (x ∷ xs) zero h = absurd (omega arith)
dropped (x ∷ xs) (suc i) h = dropped xs i (omega arith)

no-entry : (kind : EventKind) (es : List LogEntry) (i k : ℕ) → length es ≤ i
    → slice_get (filter (is_of_kind kind) (flat_map events (drop i es))) k ≡ None
no-entry kind es i k h = ap (λ l. slice_get (filter (is_of_kind kind) (flat_map events l)) k) (dropped es i h)

after-others : {A : Type 0} (xs ys : List A) (k : ℕ) → slice_get (xs ++ ys) (length xs + k) ≡ slice_get ys k
after-others [] ys k = ap (slice_get ys) (zero-add k)
after-others (x ∷ xs) ys k =
    let e : suc (length xs) + k ≡ suc (length xs + k) = omega arith in
    ap (slice_get (x ∷ (xs ++ ys))) e ∙ after-others xs ys k

among-first : {A : Type 0} (xs ys : List A) (k : ℕ) (x : A) → slice_get xs k ≡ Some x → slice_get (xs ++ ys) k ≡ Some x
among-first [] ys k x h = cc
among-first (y ∷ xs) ys zero x h = h
among-first (y ∷ xs) ys (suc k) x h = among-first xs ys k x h

-- the events of a kind behind those of the first entries
behind : (kind : EventKind) (es : List LogEntry) (i k : ℕ)
    → slice_get (filter (is_of_kind kind) (flat_map events es)) (count_by (is_of_kind kind) (flat_map events (take i es)) + k)
    ≡ slice_get (filter (is_of_kind kind) (flat_map events (drop i es))) k
behind kind es i k =
    let xs = flat_map events (take i es) in
    let ys = flat_map events (drop i es) in
    let n = count_by (is_of_kind kind) xs + k in
    ap (λ l. slice_get (filter (is_of_kind kind) (flat_map events l)) n) (sym (take-append-drop i es))
    ∙ ap (λ l. slice_get (filter (is_of_kind kind) l) n) (flat_map-append events (take i es) (drop i es))
    ∙ ap (λ l. slice_get l n) (filter-append (is_of_kind kind) xs ys)
    ∙ ap (λ m. slice_get (filter (is_of_kind kind) xs ++ filter (is_of_kind kind) ys) (m + k)) (sym (length-filter (is_of_kind kind) xs))
    ∙ after-others (filter (is_of_kind kind) xs) (filter (is_of_kind kind) ys) k

pub found-behind : (kind : EventKind) (es : List LogEntry) (i : ℕ) (e : LogEntry) (told : List Event) (k : ℕ) (x : Event) → i < length es
    → e ≡ get_or es i e → told ≡ events e → slice_get (filter (is_of_kind kind) told) k ≡ Some x
    → slice_get (filter (is_of_kind kind) (flat_map events es)) (count_by (is_of_kind kind) (flat_map events (take i es)) + k) ≡ Some x
found-behind kind es i e told k x h is same found =
    behind kind es i k ∙ from-entry kind es i e told k h is same
    ∙ among-first (filter (is_of_kind kind) told) (filter (is_of_kind kind) (flat_map events (drop (i + 1) es))) k x found

pub none-behind : (kind : EventKind) (es : List LogEntry) (i k : ℕ) → length es ≤ i
    → slice_get (filter (is_of_kind kind) (flat_map events es)) (count_by (is_of_kind kind) (flat_map events (take i es)) + k) ≡ None
none-behind kind es i k h = behind kind es i k ∙ no-entry kind es i k h

-- how many events of a kind the first entries have, with one entry more
pub with-entry : (kind : EventKind) (es : List LogEntry) (i : ℕ) (e : LogEntry) (told : List Event) → i < length es → e ≡ get_or es i e
    → told ≡ events e
    → count_by (is_of_kind kind) (flat_map events (take (i + 1) es))
    ≡ count_by (is_of_kind kind) (flat_map events (take i es)) + count_by (is_of_kind kind) told
with-entry kind es i e told h is same =
    let before = flat_map events (take i es) in
    let here : take (i + 1) es ≡ take i es ++ e ∷ [] = take_more es i e h ∙ ap (λ x. take i es ++ x ∷ []) (sym is) in
    ap (λ l. count_by (is_of_kind kind) (flat_map events l)) here
    ∙ ap (count_by (is_of_kind kind)) (flat_map-append events (take i es) (e ∷ []) ∙ ap (λ l. before ++ l) (append-nothing (events e) ∙ sym same))
    ∙ sum_by-append (λ x. cond (is_of_kind kind x) 1 0) before told

within : {A : Type 0} (xs : List A) (k : ℕ) (x : A) → slice_get xs k ≡ Some x → k < length xs
within [] k x h = cc
within (y ∷ xs) zero x h = omega arith
within (y ∷ xs) (suc k) x h = let w = within xs k x h in omega (arith, w)

-- an event after others of its entry is one of those up to the entry
pub reached-at : (kind : EventKind) (es : List LogEntry) (i : ℕ) (e : LogEntry) (told : List Event) (k : ℕ) (x : Event) → i < length es
    → e ≡ get_or es i e → told ≡ events e → slice_get (filter (is_of_kind kind) told) k ≡ Some x
    → count_by (is_of_kind kind) (flat_map events (take i es)) + (k + 1) ≤ count_by (is_of_kind kind) (flat_map events (take (i + 1) es))
reached-at kind es i e told k x h is same found =
    omega (arith, with-entry kind es i e told h is same, within (filter (is_of_kind kind) told) k x found, length-filter (is_of_kind kind) told)

kept-more : {A : Type 0} (p : A → Bool) (y : A) (ys zs : List A) (x : A) (b : Bool) → p y ≡ b → slice_get (filter p ys) (length (filter p zs)) ≡ Some x
    → slice_get (filter p (y ∷ ys)) (length (filter p (y ∷ zs))) ≡ Some x
kept-more p y ys zs x true is h = rw is h
kept-more p y ys zs x false is h = rw is h

-- the item that passes a test after those before it that pass
pub kept-at : {A : Type 0} (p : A → Bool) (xs : List A) (i : ℕ) (x : A) → i < length xs → x ≡ get_or xs i x → p x ≡ true
    → slice_get (filter p xs) (length (filter p (take i xs))) ≡ Some x
kept-at p [] i x h is passes = absurd (omega arith)
kept-at p (y ∷ ys) zero x h is passes = let same : x ≡ y = is in rw (← same, passes) refl
kept-at p (y ∷ ys) (suc i) x h is passes = kept-more p y ys (take i ys) x (p y) refl (kept-at p ys i x (omega arith) is passes)

-- ---- the last event
pub up-to-entry : (kind : EventKind) (es : List LogEntry) (n i : ℕ) (e : LogEntry) (told : List Event) → n ≡ i + 1 → i < length es → e ≡ get_or es i e
    → told ≡ events e
    → find (is_of_kind kind) (reverse (flat_map events (take n es)))
    ≡ option_or (find (is_of_kind kind) (reverse told)) (find (is_of_kind kind) (reverse (flat_map events (take i es))))
up-to-entry kind es n i e told en h is same =
    let before = flat_map events (take i es) in
    let here : take n es ≡ take i es ++ e ∷ [] = ap (λ j. take j es) en ∙ take_more es i e h ∙ ap (λ x. take i es ++ x ∷ []) (sym is) in
    ap (λ l. find (is_of_kind kind) (reverse (flat_map events l))) here
    ∙ ap (λ l. find (is_of_kind kind) (reverse l)) (flat_map-append events (take i es) (e ∷ []) ∙ ap (λ l. before ++ l) (append-nothing (events e) ∙ sym same))
    ∙ ap (find (is_of_kind kind)) (reverse-append before told)
    ∙ find-append (is_of_kind kind) (reverse told) (reverse before)
