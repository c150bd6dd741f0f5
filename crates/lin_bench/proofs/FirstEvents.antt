-- The first of events that passes a test of the events before it and itself.
use Rattle.std.proofs.Common.{◌≡◌, ◌∙◌, ℕ, suc, zero, ◌+◌, ◌<◌, ◌≤◌, ◌&&◌, ◌||◌, Bool, true, false, cond, List, [], ◌∷◌, ◌++◌, Option, Some, None, refl, sym, ap, subst, append_assoc, arith, add-one, drop, drop-cons, get_or, length, reverse, take}
use Rattle.std.specs.Prelude.{count_by, flat_map, nat_eq, nat_le, nat_lt}
use Rattle.std.specs.List.{filter_map}
use Rattle.std.proofs.lemmas.Bool.Decides.{nat_tests}
use Rattle.std.proofs.lemmas.Grind.{flat_map-append}
use Rattle.std.proofs.lemmas.List.{take-append-drop, take_all, take_more}
use Rattle.std.proofs.lemmas.List.Sums.{sum_by-append, sum_by-cons}
use Rattle.lin_core.specs.History.{events}
use Rattle.lin_core.specs.declared.event.Event.{Event}
use Rattle.lin_core.specs.declared.log.LogEntry.{LogEntry}
use Rattle.lin_bench.specs.LeftEvents.{AreOf, is_left}
use Rattle.lin_bench.specs.Searches.{HoldNone, IsSearchState, kind_found, last_end, taken_by}
use Rattle.lin_bench.specs.Verdicts.{all_events, first_so, is_of_kind, kind_of, same_kind}
use Rattle.lin_bench.specs.declared.taken.EventKind.{EventKind}
use Rattle.lin_bench.specs.declared.taken.LogPlace.{LogPlace}
use Rattle.lin_bench.specs.declared.taken.TakenEvents.{TakenEvents}
use Rattle.lin_bench.proofs.Makes.{append-nothing}
use Rattle.lin_bench.proofs.Events.{count-kinds, events-of-log}

-- ---- one event more
pub not-this : (p : List Event → Event → Bool) (before rest : List Event) (e : Event) (b : Bool) → p before e ≡ b → b ≡ false
    → first_so p before (e ∷ rest) ≡ first_so p (before ++ e ∷ []) rest
not-this p before rest e b is h = rw (is, h) refl

pub this-one : (p : List Event → Event → Bool) (before rest : List Event) (e : Event) → p before e ≡ true
    → first_so p before (e ∷ rest) ≡ Some e
this-one p before rest e is = rw is refl

-- ---- events of which none passes
none-step : (p : List Event → Event → Bool) (before es ys : List Event) (e : Event) (b : Bool) → p before e ≡ b
    → (first_so p (before ++ e ∷ []) es ≡ None
    → first_so p (before ++ e ∷ []) (es ++ ys) ≡ first_so p ((before ++ e ∷ []) ++ es) ys)
    → first_so p before (e ∷ es) ≡ None
    → first_so p before (e ∷ (es ++ ys)) ≡ first_so p (before ++ e ∷ es) ys
none-step p before es ys e true is rest h =
    let some = sym (this-one p before es e is) ∙ h in cc
none-step p before es ys e false is rest h =
    not-this p before (es ++ ys) e false is refl
    ∙ rest (sym (not-this p before es e false is refl) ∙ h)
    ∙ ap (λ l. first_so p l ys) (append_assoc before (e ∷ []) es)

pub none-before : (p : List Event → Event → Bool) (before es ys : List Event) → first_so p before es ≡ None
    → first_so p before (es ++ ys) ≡ first_so p (before ++ es) ys
none-before p before [] ys h = ap (λ l. first_so p l ys) (sym (append-nothing before))
none-before p before (e ∷ es) ys h =
    none-step p before es ys e (p before e) refl (none-before p (before ++ e ∷ []) es ys) h

pub none-with : (p : List Event → Event → Bool) (before es : List Event) (e : Event) → first_so p before es ≡ None
    → p (before ++ es) e ≡ false → first_so p before (es ++ e ∷ []) ≡ None
none-with p before es e none is =
    none-before p before es (e ∷ []) none ∙ not-this p (before ++ es) [] e false is refl

some-step : (p : List Event → Event → Bool) (before es ys : List Event) (e f : Event) (b : Bool) → p before e ≡ b
    → (first_so p (before ++ e ∷ []) es ≡ Some f → first_so p (before ++ e ∷ []) (es ++ ys) ≡ Some f)
    → first_so p before (e ∷ es) ≡ Some f → first_so p before (e ∷ (es ++ ys)) ≡ Some f
some-step p before es ys e f true is rest h =
    this-one p before (es ++ ys) e is ∙ sym (this-one p before es e is) ∙ h
some-step p before es ys e f false is rest h =
    not-this p before (es ++ ys) e false is refl ∙ rest (sym (not-this p before es e false is refl) ∙ h)

pub some-before : (p : List Event → Event → Bool) (before es ys : List Event) (f : Event) → first_so p before es ≡ Some f
    → first_so p before (es ++ ys) ≡ Some f
some-before p before [] ys f h = cc
some-before p before (e ∷ es) ys f h =
    some-step p before es ys e f (p before e) refl (some-before p (before ++ e ∷ []) es ys f) h

-- the first that passes, behind events of which none does
pub first-at : (p : List Event → Event → Bool) (before es : List Event) (i : ℕ) (e : Event) → i < length es → e ≡ get_or es i e
    → first_so p before (take i es) ≡ None → p (before ++ take i es) e ≡ true
    → first_so p before es ≡ Some e
first-at p before es i e h at none is =
    let tail = drop (i + 1) es in
    let here : drop i es ≡ e ∷ tail = drop-cons es i e h ∙ ap (λ x. x ∷ drop (suc i) es) (sym at) ∙ ap (λ j. e ∷ drop j es) (sym (add-one i)) in
    let whole : es ≡ take i es ++ e ∷ tail = sym (take-append-drop i es) ∙ ap (λ l. take i es ++ l) here in
    ap (first_so p before) whole ∙ none-before p before (take i es) (e ∷ tail) none
    ∙ this-one p (before ++ take i es) tail e is

-- events that are passed over: none of them passes
pub passed-over : (p : List Event → Event → Bool) (before es rest : List Event)
    → ((xs : List Event) → (e : Event) → (ys : List Event) → xs ++ e ∷ ys ≡ before ++ es → p xs e ≡ false)
    → first_so p before (es ++ rest) ≡ first_so p (before ++ es) rest
passed-over p before [] rest none = ap (λ l. first_so p l rest) (sym (append-nothing before))
passed-over p before (e ∷ es) rest none =
    let assoc = append_assoc before (e ∷ []) es in
    not-this p before (es ++ rest) e (p before e) refl (none before e es refl)
    ∙ passed-over p (before ++ e ∷ []) es rest (λ xs x ys h. none xs x ys (h ∙ assoc))
    ∙ ap (λ l. first_so p l rest) assoc

-- ---- how many events of a kind there are
pub more-of : (kind : EventKind) (before : List Event) (e : Event) (es : List Event) → is_of_kind kind e ≡ true
    → count_by (is_of_kind kind) before < count_by (is_of_kind kind) (before ++ e ∷ es)
more-of kind before e es is =
    let both = sum_by-append (λ x. cond (is_of_kind kind x) 1 0) before (e ∷ es) in
    let one : count_by (is_of_kind kind) (e ∷ es) ≡ 1 + count_by (is_of_kind kind) es =
    sum_by-cons (λ x. cond (is_of_kind kind x) 1 0) e es ∙ ap (λ b. cond b 1 0 + count_by (is_of_kind kind) es) is in
    omega (arith, both, one)

pub le-false : (m n : ℕ) (b : Bool) → n < m → b && nat_le m n ≡ false
le-false m n true h = grind (arith, nat_tests)
le-false m n false h = refl

one-more : (kind : EventKind) (e : LogEntry) (es : List LogEntry)
    → count_by (is_of_kind kind) (flat_map events (e ∷ es)) ≡ count_by (is_of_kind kind) (events e) + count_by (is_of_kind kind) (flat_map events es)
one-more kind e es = sum_by-append (λ x. cond (is_of_kind kind x) 1 0) (events e) (flat_map events es)

-- how many events of a kind the first entries have
pub fewer : (kind : EventKind) (es : List LogEntry) (m n : ℕ) → m ≤ n
    → count_by (is_of_kind kind) (flat_map events (take m es)) ≤ count_by (is_of_kind kind) (flat_map events (take n es))
fewer kind es zero n h = omega arith
fewer kind [] (suc m) n h = omega arith
fewer kind (e ∷ es) (suc m) zero h = absurd (omega arith)
fewer kind (e ∷ es) (suc m) (suc n) h =
    let rest = fewer kind es m n (omega arith) in
    let one = one-more kind e (take m es) in
    let two = one-more kind e (take n es) in
    omega (arith, rest, one, two)

pub grown-count : (kind : EventKind) (es more : List LogEntry) (n : ℕ)
    → count_by (is_of_kind kind) (flat_map events (take n es)) ≤ count_by (is_of_kind kind) (flat_map events (take n (es ++ more)))
grown-count kind es more zero = omega arith
grown-count kind [] more (suc n) = omega arith
grown-count kind (e ∷ es) more (suc n) =
    let rest = grown-count kind es more n in
    let one = one-more kind e (take n es) in
    let two = one-more kind e (take n (es ++ more)) in
    omega (arith, rest, one, two)

-- how many events of a kind are taken
pub taken-of : (es : List LogEntry) (t : TakenEvents) (kind : EventKind)
    → count_by (same_kind kind) (taken_by es t)
    ≡ count_by (is_of_kind kind) (flat_map events (take t.forgotten es)) + count_by (same_kind kind) (flat_map kind_found t.searches.items)
taken-of es t kind =
    let gone = flat_map events (take t.forgotten es) in
    let found = flat_map kind_found t.searches.items in
    sum_by-append (λ x. cond (same_kind kind x) 1 0) (filter_map kind_of gone) found
    ∙ ap (λ n. n + count_by (same_kind kind) found) (sym (count-kinds kind gone))

-- ---- one entry more
pub events-with : (es : List LogEntry) (i : ℕ) (e : LogEntry) (told : List Event) → i < length es → e ≡ get_or es i e → told ≡ events e
    → flat_map events (take (i + 1) es) ≡ flat_map events (take i es) ++ told
events-with es i e told h is same =
    let here : take (i + 1) es ≡ take i es ++ e ∷ [] = take_more es i e h ∙ ap (λ x. take i es ++ x ∷ []) (sym is) in
    ap (flat_map events) here ∙ flat_map-append events (take i es) (e ∷ [])
    ∙ ap (λ l. flat_map events (take i es) ++ l) (append-nothing (events e) ∙ sym same)

pub events-from : (es : List LogEntry) (i : ℕ) (e : LogEntry) (told : List Event) → i < length es → e ≡ get_or es i e → told ≡ events e
    → flat_map events (drop i es) ≡ told ++ flat_map events (drop (i + 1) es)
events-from es i e told h is same =
    let here : drop i es ≡ e ∷ drop (i + 1) es =
    drop-cons es i e h ∙ ap (λ x. x ∷ drop (suc i) es) (sym is) ∙ ap (λ j. e ∷ drop j es) (sym (add-one i)) in
    ap (flat_map events) here ∙ ap (λ l. l ++ flat_map events (drop (i + 1) es)) (sym same)

-- ---- whether an event of a kind is taken, by its place
where-left : (m n end i k c first before : ℕ) (later same : Bool) → nat_lt end i ≡ later → nat_eq i end ≡ same
    → m ≡ before + k → n ≡ first + c → (end < i → m ≤ first) → (end ≡ i → before ≡ first) → (i < end → n < m)
    → later || (same && nat_le k c) ≡ nat_le m n
where-left m n end i k c first before true same l s ms ns h g f =
    let few = h (grind (arith, nat_tests)) in grind (arith, nat_tests)
where-left m n end i k c first before false true l s ms ns h g f =
    let at = g (grind (arith, nat_tests)) in grind (arith, nat_tests)
where-left m n end i k c first before false false l s ms ns h g f =
    let few = f (grind (arith, nat_tests)) in grind (arith, nat_tests)

pub left-at : (es : List LogEntry) (t : TakenEvents) (kind : EventKind) (i : ℕ) (before : List Event) (e : Event) (rest : List Event) → IsSearchState es t
    → AreOf es i (before ++ e ∷ rest) → is_of_kind kind e ≡ true
    → nat_lt (last_end kind t).entry i
    || (nat_eq i (last_end kind t).entry && nat_le (last_end kind t).events (count_by (is_of_kind kind) before))
    ≡ is_left (taken_by es t) kind (flat_map events (take i es) ++ before)
left-at es t kind i before e rest k are is =
    let p = last_end kind t in
    let taken = k.taken kind in
    let reached = k.reached kind in
    let some = more-of kind before e rest is in
    let here = sum_by-append (λ x. cond (is_of_kind kind x) 1 0) (flat_map events (take i es)) before in
    let with : count_by (is_of_kind kind) (flat_map events (take (i + 1) es))
    ≡ count_by (is_of_kind kind) (flat_map events (take i es)) + count_by (is_of_kind kind) (before ++ e ∷ rest) =
    ap (count_by (is_of_kind kind)) are ∙ sum_by-append (λ x. cond (is_of_kind kind x) 1 0) (flat_map events (take i es)) (before ++ e ∷ rest) in
    where-left (count_by (same_kind kind) (taken_by es t)) (count_by (is_of_kind kind) (flat_map events (take i es) ++ before)) p.entry i p.events
    (count_by (is_of_kind kind) before) (count_by (is_of_kind kind) (flat_map events (take i es))) (count_by (is_of_kind kind) (flat_map events (take p.entry es)))
    (nat_lt p.entry i) (nat_eq i p.entry) refl refl (sym taken) here
    (λ h. let few = fewer kind es (p.entry + 1) i (omega (arith, h)) in omega (arith, few, reached, taken))
    (λ h. ap (λ n. count_by (is_of_kind kind) (flat_map events (take n es))) h)
    (λ h. let few = fewer kind es (i + 1) p.entry (omega (arith, h)) in omega (arith, few, with, some, here, taken))

pub left-here : (es : List LogEntry) (t : TakenEvents) (kind : EventKind) (i : ℕ) (before : List Event) (e : Event) (rest : List Event) (end : LogPlace) → IsSearchState es t
    → AreOf es i (before ++ e ∷ rest) → is_of_kind kind e ≡ true → end ≡ last_end kind t → i ≡ end.entry
    → nat_le end.events (count_by (is_of_kind kind) before) ≡ is_left (taken_by es t) kind (flat_map events (take i es) ++ before)
left-here es t kind i before e rest end k are is at h =
    let p = last_end kind t in
    let n = count_by (is_of_kind kind) before in
    let there : i ≡ p.entry = h ∙ ap (λ (q : LogPlace). q.entry) at in
    let later : nat_lt p.entry i ≡ false = grind (arith, nat_tests) in
    let same : nat_eq i p.entry ≡ true = grind (arith, nat_tests) in
    ap (λ (q : LogPlace). nat_le q.events n) at ∙ sym (ap (λ b. b && nat_le p.events n) same)
    ∙ sym (ap (λ b. b || (nat_eq i p.entry && nat_le p.events n)) later)
    ∙ left-at es t kind i before e rest k are is

or-nothing : (l s b : Bool) → s ≡ false → l || (s && b) ≡ l
or-nothing true s b h = refl
or-nothing false s b h = rw h refl

pub left-apart : (es : List LogEntry) (t : TakenEvents) (kind : EventKind) (i : ℕ) (before : List Event) (e : Event) (rest : List Event) (end : LogPlace) → IsSearchState es t
    → AreOf es i (before ++ e ∷ rest) → is_of_kind kind e ≡ true → end ≡ last_end kind t → nat_eq i end.entry ≡ false
    → nat_lt end.entry i ≡ is_left (taken_by es t) kind (flat_map events (take i es) ++ before)
left-apart es t kind i before e rest end k are is at h =
    let p = last_end kind t in
    let n = count_by (is_of_kind kind) before in
    let other : nat_eq i p.entry ≡ false = subst (λ (q : LogPlace). nat_eq i q.entry ≡ false) at h in
    ap (λ (q : LogPlace). nat_lt q.entry i) at ∙ sym (or-nothing (nat_lt p.entry i) (nat_eq i p.entry) (nat_le p.events n) other)
    ∙ left-at es t kind i before e rest k are is

-- ---- a search over entries
pub same-item : (xs : List Event) (i : ℕ) (x y : Event) → i < length xs → x ≡ get_or xs i x → y ≡ get_or xs i y → x ≡ y
same-item [] i x y h p q = absurd (omega arith)
same-item (z ∷ xs) zero x y h p q = p ∙ sym q
same-item (z ∷ xs) (suc i) x y h p q = same-item xs i x y (omega arith) p q

pub split-at : (xs : List Event) (i : ℕ) (e : Event) → i < length xs → e ≡ get_or xs i e → xs ≡ take i xs ++ e ∷ drop (i + 1) xs
split-at xs i e h at =
    let here : drop i xs ≡ e ∷ drop (i + 1) xs =
    drop-cons xs i e h ∙ ap (λ x. x ∷ drop (suc i) xs) (sym at) ∙ ap (λ j. e ∷ drop j xs) (sym (add-one i)) in
    sym (take-append-drop i xs) ∙ ap (λ l. take i xs ++ l) here

pub found-first : (p : List Event → Event → Bool) (es : List LogEntry) (i : ℕ) (entry : LogEntry) (told : List Event) (e : Event) → i < length es
    → entry ≡ get_or es i entry → told ≡ events entry → HoldNone p es i
    → first_so p (flat_map events (take i es)) told ≡ Some e → first_so p [] (all_events (reverse es)) ≡ Some e
found-first p es i entry told e h at same clear found =
    let before = flat_map events (take i es) in
    let rest = flat_map events (drop (i + 1) es) in
    let whole : flat_map events es ≡ before ++ (told ++ rest) =
    ap (flat_map events) (sym (take-append-drop i es)) ∙ flat_map-append events (take i es) (drop i es)
    ∙ ap (λ l. before ++ l) (events-from es i entry told h at same) in
    ap (first_so p []) (events-of-log es) ∙ ap (first_so p []) whole ∙ none-before p [] before (told ++ rest) clear.1
    ∙ some-before p before told rest e found

pub none-with-entry : (p : List Event → Event → Bool) (es : List LogEntry) (i : ℕ) (entry : LogEntry) (told : List Event) → i < length es
    → entry ≡ get_or es i entry → told ≡ events entry → HoldNone p es i
    → first_so p (flat_map events (take i es)) told ≡ None → HoldNone p es (i + 1)
none-with-entry p es i entry told h at same clear none = (
  omega (arith, h),
  ap (first_so p []) (events-with es i entry told h at same)
      ∙ none-before p [] (flat_map events (take i es)) told clear.1 ∙ none,
)

pub none-in-all : (p : List Event → Event → Bool) (es : List LogEntry) (i : ℕ) → length es ≤ i → HoldNone p es i
    → first_so p [] (all_events (reverse es)) ≡ None
none-in-all p es i h clear =
    ap (first_so p []) (events-of-log es)
    ∙ ap (λ l. first_so p [] (flat_map events l)) (sym (take_all i es h)) ∙ clear.1
