-- When slots with a frame began, and how far apart.
use Rattle.std.proofs.Common.{◌≡◌, ◌∙◌, ℕ, ◌+◌, ◌-◌, ◌<◌, ◌≤◌, ◌&&◌, Bool, true, false, cond, not, List, [], ◌∷◌, ◌++◌, Option, Some, None, refl, sym, ap, subst, arith, add-zero, eqb-true, get_or, length, length-append, lt-ltb, ltb-false, ltb-true, reverse, take}
use Rattle.std.specs.Prelude.{count_by, find, flat_map, nat_eq, nat_le, option_map}
use Rattle.std.specs.Option.{option_map_or, option_or}
use Rattle.std.proofs.lemmas.Bool.Decides.{nat_tests}
use Rattle.std.proofs.lemmas.List.{take_all}
use Rattle.std.proofs.lemmas.List.Folds.{find-append}
use Rattle.lin_parts.specs.Cluster.{line_of}
use Rattle.lin_parts.specs.declared.parts.Parts.{Parts}
use Rattle.lin_core.specs.History.{Slot, events, finished_slot, time}
use Rattle.lin_core.specs.declared.log.LogEntry.{LogEntry}
use Rattle.lin_log.specs.declared.line_words.Carried.{Carried}
use Rattle.lin_log.specs.declared.line_words.Carried.TheVariants.{Signals, Request, Response}
use Rattle.lin_bench.specs.Verdicts.{begins_with, carries, cycle_verdict, distances, ended_delay, is_after_forget, is_near, is_of_kind, same_frame, same_kind}
use Rattle.lin_bench.specs.Searches.{IsSearchState, before, last_end, taken_by}
use Rattle.lin_bench.specs.Watches.{AreBegins, IsCycleState, first_other, last_of}
use Rattle.lin_bench.specs.declared.cycles.Begins.{Begins}
use Rattle.lin_bench.specs.declared.cycles.CycleState.{CycleState}
use Rattle.lin_bench.specs.declared.cycles.FrameCycle.{FrameCycle}
use Rattle.lin_bench.specs.declared.got.Got.{Got}
use Rattle.lin_bench.specs.declared.got.Got.TheVariants as got
use Rattle.lin_bench.specs.declared.taken.EventKind.{EventKind}
use Rattle.lin_bench.specs.declared.taken.EventKind.TheVariants.{Ends}
use Rattle.lin_bench.specs.declared.taken.LogPlace.{LogPlace}
use Rattle.lin_bench.specs.declared.taken.TakenEvents.{TakenEvents}
use Rattle.lin_bench.proofs.Events.{events-of-log}
use Rattle.lin_bench.proofs.Makes.{append-nothing}
use Rattle.lin_bench.proofs.Walks.{one-back}

-- ---- the slot that an entry ends
and-false : (b : Bool) → b && false ≡ false
and-false true = refl
and-false false = refl

by-slot : (c : Parts) (t : ℕ) (o : Option Slot)
    → option_map_or (λ (s : Slot). t + (line_of c s.table s.entry).delay_us) o t
    ≡ t + option_map_or (λ (s : Slot). (line_of c s.table s.entry).delay_us) o 0
by-slot c t None = sym (add-zero t)
by-slot c t (Some s) = refl

-- it adds its delay to the time
pub slot-more : (c : Parts) (e : LogEntry) (past : List LogEntry) → time c (e ∷ past) ≡ time c past + ended_delay c e past
slot-more c e past = by-slot c (time c past) (finished_slot e past)

-- ---- slots since the last `forget`
le-by : (m n k : ℕ) → k ≡ m - n → nat_le m n ≡ nat_eq k 0
le-by m n k h = grind (arith, nat_tests)

pub after-forget : (ts : List EventKind) (es : List LogEntry) (i skip : ℕ)
    → skip ≡ count_by (same_kind Ends) ts - count_by (is_of_kind Ends) (flat_map events (take i es))
    → is_after_forget ts (reverse (take i es)) ≡ nat_eq skip 0
after-forget ts es i skip h =
    ap (λ l. nat_le (count_by (same_kind Ends) ts) (count_by (is_of_kind Ends) l)) (events-of-log (take i es))
    ∙ le-by (count_by (same_kind Ends) ts) (count_by (is_of_kind Ends) (flat_map events (take i es))) skip h

pub begins-more : (c : Parts) (frame : Carried) (ts : List EventKind) (es : List LogEntry) (i : ℕ) (e : LogEntry) (b : Bool) → i < length es → e ≡ get_or es i e
    → is_after_forget ts (reverse (take i es)) && carries c frame e (reverse (take i es)) ≡ b
    → begins_with c frame ts (reverse (take (i + 1) es))
    ≡ begins_with c frame ts (reverse (take i es)) ++ cond b (time c (reverse (take i es)) ∷ []) []
begins-more c frame ts es i e b h at is =
    let past = reverse (take i es) in
    ap (begins_with c frame ts) (one-back es i e h at)
    ∙ ap (λ b. begins_with c frame ts past ++ cond b (time c past ∷ []) []) is

-- the slot that an entry ends counts, or it doesn't
pub one-more-begin : (c : Parts) (cycle : FrameCycle) (ts : List EventKind) (es : List LogEntry) (i : ℕ) (e : LogEntry) (old new : Begins) (t : ℕ) → i < length es
    → e ≡ get_or es i e → AreBegins cycle (begins_with c cycle.frame ts (reverse (take i es))) old → t ≡ time c (reverse (take i es))
    → ((us : List ℕ) → AreBegins cycle us old → AreBegins cycle (us ++ t ∷ []) new)
    → is_after_forget ts (reverse (take i es)) ≡ true → carries c cycle.frame e (reverse (take i es)) ≡ true
    → AreBegins cycle (begins_with c cycle.frame ts (reverse (take (i + 1) es))) new
one-more-begin c cycle ts es i e old new t h at known now more after is =
    let past = reverse (take i es) in
    let olds = begins_with c cycle.frame ts past in
    let all = begins-more c cycle.frame ts es i e true h at (ap (λ b. b && carries c cycle.frame e past) after ∙ is) ∙ ap (λ n. olds ++ n ∷ []) (sym now) in
    subst (λ us. AreBegins cycle us new) (sym all) (more olds known)

pub no-more-begin : (c : Parts) (cycle : FrameCycle) (ts : List EventKind) (es : List LogEntry) (i : ℕ) (e : LogEntry) (old : Begins) → i < length es
    → e ≡ get_or es i e → AreBegins cycle (begins_with c cycle.frame ts (reverse (take i es))) old
    → is_after_forget ts (reverse (take i es)) && carries c cycle.frame e (reverse (take i es)) ≡ false
    → AreBegins cycle (begins_with c cycle.frame ts (reverse (take (i + 1) es))) old
no-more-begin c cycle ts es i e old h at known is =
    let olds = begins_with c cycle.frame ts (reverse (take i es)) in
    let all = begins-more c cycle.frame ts es i e false h at is ∙ append-nothing olds in
    subst (λ us. AreBegins cycle us old) (sym all) known

pub not-after : (a b : Bool) → a ≡ false → a && b ≡ false
not-after a b h = rw h refl

pub not-carried : (a b : Bool) → b ≡ false → a && b ≡ false
not-carried a b h = rw h (and-false a)

-- ---- how far apart
last-more : (x : ℕ) (ts : List ℕ) (t : ℕ) → last_of (x ∷ (ts ++ t ∷ [])) ≡ Some t
last-more x [] t = refl
last-more x (y ∷ ts) t = last-more y ts t

some-last : (x : ℕ) (ts : List ℕ) → last_of (x ∷ ts) ≡ None → ⊥
some-last x [] h = cc
some-last x (y ∷ ts) h = some-last y ts h

-- the distance to one more time, if there is a last one
abbrev distance-to : Option ℕ → ℕ → List ℕ
distance-to None t = []
distance-to (Some l) t = (t - l) ∷ []

more-distances : (x : ℕ) (ts : List ℕ) (t : ℕ) → distances (x ∷ (ts ++ t ∷ [])) ≡ distances (x ∷ ts) ++ distance-to (last_of (x ∷ ts)) t
more-distances x [] t = refl
more-distances x (y ∷ ts) t = ap (λ l. (y - x) ∷ l) (more-distances y ts t)

pub few-distances : (xs : List ℕ) → length xs < 2 → distances xs ≡ []
few-distances [] h = refl
few-distances (a ∷ []) h = refl
few-distances (a ∷ b ∷ xs) h = absurd (omega arith)

pub some-distances : (t tolerance : ℕ) (xs : List ℕ) → 2 ≤ length xs
    → cycle_verdict t tolerance (distances xs) ≡ option_map got.Took (find (λ x. not (is_near t tolerance x)) (distances xs))
some-distances t tolerance [] h = absurd (omega arith)
some-distances t tolerance (a ∷ []) h = absurd (omega arith)
some-distances t tolerance (a ∷ b ∷ xs) h = refl

-- ---- what is kept of the times
pub first-begin : (c : FrameCycle) (ts : List ℕ) (b : Begins) (t : ℕ) → AreBegins c ts b → b.last ≡ None
    → AreBegins c (ts ++ t ∷ []) (record { last = Some t; are_two = false; other = b.other })
first-begin c [] b t h none = record { last = refl; are_two = refl; other = h.other }
first-begin c (x ∷ ts) b t h none = absurd (some-last x ts (sym h.last ∙ none))

pub next-begin : (c : FrameCycle) (ts : List ℕ) (b : Begins) (l t : ℕ) (other : Option ℕ) → AreBegins c ts b → b.last ≡ Some l
    → other ≡ option_or b.other (first_other c ((t - l) ∷ []))
    → AreBegins c (ts ++ t ∷ []) (record { last = Some t; are_two = true; other = other })
next-begin c [] b l t other h some is = absurd (let none = h.last in cc)
next-begin c (x ∷ ts) b l t other h some is =
    let p : ℕ → Bool = λ d. not (is_near c.time_us c.within_us d) in
    let last : last_of (x ∷ ts) ≡ Some l = sym h.last ∙ some in
    let all : distances (x ∷ (ts ++ t ∷ [])) ≡ distances (x ∷ ts) ++ (t - l) ∷ [] =
    more-distances x ts t ∙ ap (λ o. distances (x ∷ ts) ++ distance-to o t) last in
    record {
      last = sym (last-more x ts t);
      are_two = sym (lt-ltb 1 (length (x ∷ (ts ++ t ∷ []))) (omega (arith, length-append ts (t ∷ []))));
      other =
          is ∙ ap (λ o. option_or o (first_other c ((t - l) ∷ []))) h.other
          ∙ sym (find-append p (distances (x ∷ ts)) ((t - l) ∷ [])) ∙ ap (find p) (sym all);
    }

opposite : (a b : Bool) → not a ≡ b → a ≡ not b
opposite true b h = ap not h
opposite false b h = ap not h

pub no-cycle : (c : FrameCycle) (ts : List ℕ) (b : Begins) → AreBegins c ts b → not b.are_two ≡ true
    → Some got.NoEvent ≡ cycle_verdict c.time_us c.within_us (distances ts)
no-cycle c ts b h few =
    let short = ltb-false 1 (length ts) (sym h.are_two ∙ opposite b.are_two true few) in
    sym (ap (cycle_verdict c.time_us c.within_us) (few-distances ts (omega (arith, short))))

pub cycle-by : (c : FrameCycle) (ts : List ℕ) (b : Begins) → AreBegins c ts b → not b.are_two ≡ false
    → option_map got.Took b.other ≡ cycle_verdict c.time_us c.within_us (distances ts)
cycle-by c ts b h two =
    let long = ltb-true 1 (length ts) (sym h.are_two ∙ opposite b.are_two false two) in
    ap (option_map got.Took) h.other ∙ sym (some-distances c.time_us c.within_us ts (omega (arith, long)))

-- ---- the same cycle
same-frame : (f g : Carried) → same_frame f g ≡ true → f ≡ g
same-frame (Signals f) (Signals g) h = ap Signals (eqb-true f g h)
same-frame (Signals f) Request h = cc
same-frame (Signals f) Response h = cc
same-frame Request (Signals g) h = cc
same-frame Request Request h = refl
same-frame Request Response h = cc
same-frame Response (Signals g) h = cc
same-frame Response Request h = cc
same-frame Response Response h = refl

pub same-cycle : (a b : FrameCycle) → same_frame a.frame b.frame ≡ true → a.time_us ≡ b.time_us → a.within_us ≡ b.within_us → a ≡ b
same-cycle a b frame t w =
    ap (λ (f : Carried). record a { frame = f }) (same-frame a.frame b.frame frame)
    ∙ ap (λ (n : ℕ). record a { frame = b.frame; time_us = n }) t
    ∙ ap (λ (n : ℕ). record a { frame = b.frame; time_us = b.time_us; within_us = n }) w

pub same-place : (p q : LogPlace) → p.entry ≡ q.entry → p.events ≡ q.events → p ≡ q
same-place p q e n = ap (λ (k : ℕ). record p { entry = k }) e ∙ ap (λ (k : ℕ). record p { entry = q.entry; events = k }) n

-- ---- what is kept of a whole log tells the cycle
pub cycle-read : (c : Parts) (es : List LogEntry) (t : TakenEvents) (s : CycleState) (cycle : FrameCycle) (v : Option Got) → IsSearchState es t → IsCycleState c es s
    → s.entries ≡ length es → s.cycle ≡ cycle → s.from ≡ last_end Ends t
    → ((y : FrameCycle) → (ts : List ℕ) → AreBegins y ts s.begins → v ≡ cycle_verdict y.time_us y.within_us (distances ts))
    → v ≡ cycle_verdict cycle.time_us cycle.within_us (distances (begins_with c cycle.frame (taken_by es t) (reverse es)))
cycle-read c es t s cycle v known k all is from says =
    let ts = taken_by es t in
    let consumed = sym (ap (before es Ends) from ∙ known.taken Ends) in
    let whole : take s.entries es ≡ es = take_all s.entries es (omega (arith, all)) in
    says s.cycle (begins_with c s.cycle.frame ts (reverse (take s.entries es))) (k.begins ts consumed)
    ∙ ap (λ l. cycle_verdict s.cycle.time_us s.cycle.within_us (distances (begins_with c s.cycle.frame ts (reverse l)))) whole
    ∙ ap (λ (y : FrameCycle). cycle_verdict y.time_us y.within_us (distances (begins_with c y.frame ts (reverse es)))) is
