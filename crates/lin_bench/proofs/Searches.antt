-- Searches for events that expectations take.
use Rattle.std.proofs.Common.{◌≡◌, ◌∙◌, ◌+◌, ◌≤◌, ℕ, Bool, true, false, cond, List, [], ◌∷◌, ◌++◌, length, reverse, take, refl, sym, ap, subst, append_assoc, arith, add-zero, zero-add, length-append, Option, Some, None}
use Rattle.std.specs.List.{filter_map}
use Rattle.std.specs.Prelude.{count_by, filter, find, flat_map, is_some, replicate, slice_get}
use Rattle.std.proofs.lemmas.Bool.Decides.{nat_tests}
use Rattle.std.proofs.lemmas.Grind.{flat_map-append}
use Rattle.std.proofs.lemmas.List.{reverse-append, take-append-le, take_all}
use Rattle.std.proofs.lemmas.List.Sums.{sum_by-append}
use Rattle.lin_core.specs.Core.{CoreData, past_of}
use Rattle.lin_core.specs.History.{events}
use Rattle.lin_core.specs.declared.event.Event.{Event}
use Rattle.lin_core.specs.declared.log.LogEntry.{LogEntry}
use Rattle.lin_bench.specs.Making.{IsGrown}
use Rattle.lin_bench.specs.Searches.{AreClear, Finds, IsBehind, IsSearchState, IsReached, KeepsCleared, before, cleared_count, end_of, is_sought, kind_found, last_end, last_search, place_before, same_host, same_search, taken_by}
use Rattle.lin_bench.specs.Verdicts.{all_taken, first_so, is_of_kind, kind_of, next_event, same_kind, with_taken}
use Rattle.lin_bench.specs.declared.taken.Cleared.{Cleared}
use Rattle.lin_bench.specs.declared.taken.EventKind.{EventKind}
use Rattle.lin_bench.specs.declared.taken.EventKind.TheVariants.{Messages, Fates, Ends, Begins}
use Rattle.lin_bench.specs.declared.taken.EventsSought.{EventsSought}
use Rattle.lin_bench.specs.declared.taken.EventsSought.TheVariants as sought
use Rattle.lin_bench.specs.declared.taken.LogPlace.{LogPlace}
use Rattle.lin_bench.specs.declared.taken.Search.{Search}
use Rattle.lin_bench.specs.declared.taken.TakenEvents.{TakenEvents}
use Rattle.lin_bench.proofs.Events.{count-kinds, events-of-log}
use Rattle.lin_bench.proofs.FirstEvents.{fewer, grown-count}
use Rattle.lin_bench.proofs.Makes.{append-nothing}
use Rattle.lin_bench.proofs.SoughtEvents.{clear-at-first, each-at-most, none-more}

-- what is taken where nothing was searched for since these entries
forgotten-taken : (es : List LogEntry) (t : TakenEvents) → t.searches.items ≡ [] → taken_by es t ≡ filter_map kind_of (flat_map events (take t.forgotten es))
forgotten-taken es t none =
    ap (λ ss. filter_map kind_of (flat_map events (take t.forgotten es)) ++ flat_map kind_found ss) none
    ∙ append-nothing (filter_map kind_of (flat_map events (take t.forgotten es)))

-- as many entries as are forgotten hold no event that is left
abbrev pub AreFirst : TakenEvents → Type 0
AreFirst t = (q : EventsSought) → cleared_count t.cleared q ≤ t.forgotten

pub first-cleared : (t : TakenEvents) → t.cleared.losses ≡ t.forgotten → t.cleared.hosts ≡ replicate 256 t.forgotten → t.cleared.messages ≡ t.forgotten
    → AreFirst t
first-cleared t losses hosts messages (sought.Losses None) = omega (arith, losses)
first-cleared t losses hosts messages (sought.Losses (Some host)) = rw hosts (each-at-most 256 t.forgotten host)
first-cleared t losses hosts messages sought.Messages = omega (arith, messages)

known-nothing : (es : List LogEntry) (t : TakenEvents) → t.searches.items ≡ [] → AreFirst t → t.forgotten ≤ length es → IsSearchState es t
known-nothing es t none first few =
    let end : (kind : EventKind) → last_end kind t ≡ record { entry = t.forgotten; events = 0 } =
    λ kind. ap (λ ss. end_of t.forgotten (last_search kind ss)) none in
    record {
      forgotten = few;
      within = λ kind. rw (end kind) few;
      taken = λ kind.
          ap (before es kind) (end kind) ∙ add-zero (count_by (is_of_kind kind) (flat_map events (take t.forgotten es)))
          ∙ count-kinds kind (flat_map events (take t.forgotten es)) ∙ ap (count_by (same_kind kind)) (sym (forgotten-taken es t none));
      reached = λ kind. rw (end kind) (let more = fewer kind es t.forgotten (t.forgotten + 1) (omega arith) in omega (arith, more));
      clear = λ q. clear-at-first q es t (cleared_count t.cleared q) few (first q);
    }

-- nothing is taken of a new log
pub known-first : (es : List LogEntry) (t : TakenEvents) → t.searches.items ≡ [] → AreFirst t → t.forgotten ≡ 0 → IsSearchState es t × (taken_by es t ≡ [])
known-first es t none first zero =
    (known-nothing es t none first (omega (arith, zero)), forgotten-taken es t none ∙ ap (λ n. filter_map kind_of (flat_map events (take n es))) zero)

-- all events are taken
pub known-forgotten : (core : CoreData) (t : TakenEvents) → t.searches.items ≡ [] → AreFirst t → t.forgotten ≡ length core.log
    → IsSearchState core.log t × (taken_by core.log t ≡ all_taken (past_of core))
known-forgotten core t none first all = (
  known-nothing core.log t none first (omega (arith, all)),
  forgotten-taken core.log t none ∙ ap (λ l. filter_map kind_of (flat_map events l)) (take_all t.forgotten core.log (omega (arith, all)))
      ∙ ap (filter_map kind_of) (sym (events-of-log core.log)),
)

-- ---- more entries
pub before-more : (es more : List LogEntry) (kind : EventKind) (p : LogPlace) → p.entry ≤ length es → before (es ++ more) kind p ≡ before es kind p
before-more es more kind p h = ap (λ l. count_by (is_of_kind kind) (flat_map events l) + p.events) (take-append-le p.entry es more h)

taken-append : (es more : List LogEntry) (t : TakenEvents) → t.forgotten ≤ length es → taken_by (es ++ more) t ≡ taken_by es t
taken-append es more t h =
    ap (λ l. filter_map kind_of (flat_map events l) ++ flat_map kind_found t.searches.items) (take-append-le t.forgotten es more h)

reached-append : (es more : List LogEntry) (kind : EventKind) (p : LogPlace) → p.entry ≤ length es → IsReached es kind p → IsReached (es ++ more) kind p
reached-append es more kind p h r =
    let same = before-more es more kind p h in
    let grown = grown-count kind es more (p.entry + 1) in
    omega (arith, same, grown, r)

clear-append : (es more : List LogEntry) (t : TakenEvents) (q : EventsSought) (n : ℕ) → t.forgotten ≤ length es → AreClear es t q n
    → AreClear (es ++ more) t q n
clear-append es more t q n h c = (
  omega (arith, c.0, length-append es more),
  ap (λ ts. first_so (is_sought q ts) [] (flat_map events (take n (es ++ more)))) (taken-append es more t h)
      ∙ ap (λ l. first_so (is_sought q (taken_by es t)) [] (flat_map events l)) (take-append-le n es more c.0) ∙ c.1,
)

known-append : (es more : List LogEntry) (t : TakenEvents) → IsSearchState es t → IsSearchState (es ++ more) t
known-append es more t k =
    record {
      forgotten = let h = k.forgotten in omega (arith, h, length-append es more);
      within = λ kind. let h = k.within kind in omega (arith, h, length-append es more);
      taken = λ kind.
          before-more es more kind (last_end kind t) (k.within kind) ∙ k.taken kind
          ∙ ap (count_by (same_kind kind)) (sym (taken-append es more t k.forgotten));
      reached = λ kind. reached-append es more kind (last_end kind t) (k.within kind) (k.reached kind);
      clear = λ q. clear-append es more t q (cleared_count t.cleared q) k.forgotten (k.clear q);
    }

pub known-grown : (a b : CoreData) (t : TakenEvents) → IsGrown a b → IsSearchState a.log t → IsSearchState b.log t
known-grown a b t grown k = subst (λ l. IsSearchState l t) (sym grown.log) (known-append a.log grown.more t k)

pub taken-grown : (a b : CoreData) (t : TakenEvents) → IsGrown a b → IsSearchState a.log t → taken_by b.log t ≡ taken_by a.log t
taken-grown a b t grown k = ap (λ l. taken_by l t) grown.log ∙ taken-append a.log grown.more t k.forgotten

-- ---- one more search
pub same-kind : (q k : EventKind) → same_kind q k ≡ true → q ≡ k
same-kind (Messages a b) (Messages c d) h = grind (arith, nat_tests)
same-kind (Messages a b) (Fates d) h = cc
same-kind (Messages a b) Ends h = cc
same-kind (Messages a b) Begins h = cc
same-kind (Fates a) (Messages c d) h = cc
same-kind (Fates a) (Fates d) h = grind (arith, nat_tests)
same-kind (Fates a) Ends h = cc
same-kind (Fates a) Begins h = cc
same-kind Ends (Messages c d) h = cc
same-kind Ends (Fates d) h = cc
same-kind Ends Ends h = refl
same-kind Ends Begins h = cc
same-kind Begins (Messages c d) h = cc
same-kind Begins (Fates d) h = cc
same-kind Begins Ends h = cc
same-kind Begins Begins h = refl

-- one more search stands behind the others
pub record IsOneMore (t : TakenEvents) (s : Search) (u : TakenEvents) : Type 0 where
  pub forgotten : u.forgotten ≡ t.forgotten
  pub searches : u.searches.items ≡ t.searches.items ++ s ∷ []
  pub cleared : u.cleared ≡ t.cleared

last-first : (q : EventKind) (n : ℕ) (ss : List Search) (s : Search) (b : Bool) → same_kind q s.kind ≡ b
    → end_of n (find (λ t. same_kind q t.kind) (s ∷ reverse ss)) ≡ cond (same_kind q s.kind) s.end (end_of n (last_search q ss))
last-first q n ss s true is = rw is refl
last-first q n ss s false is = rw is refl

last-more : (q : EventKind) (t : TakenEvents) (s : Search) (u : TakenEvents) → IsOneMore t s u → last_end q u ≡ cond (same_kind q s.kind) s.end (last_end q t)
last-more q t s u more =
    ap (λ n. end_of n (last_search q u.searches.items)) more.forgotten
    ∙ ap (λ ss. end_of t.forgotten (last_search q ss)) more.searches
    ∙ ap (λ l. end_of t.forgotten (find (λ x. same_kind q x.kind) l)) (reverse-append t.searches.items (s ∷ []))
    ∙ last-first q t.forgotten t.searches.items s (same_kind q s.kind) refl

taken-more : (es : List LogEntry) (t : TakenEvents) (s : Search) (u : TakenEvents) → IsOneMore t s u → taken_by es u ≡ taken_by es t ++ kind_found s
taken-more es t s u more =
    let old = filter_map kind_of (flat_map events (take t.forgotten es)) in
    let found = flat_map kind_found t.searches.items in
    ap (λ n. filter_map kind_of (flat_map events (take n es)) ++ flat_map kind_found u.searches.items) more.forgotten
    ∙ ap (λ ss. old ++ flat_map kind_found ss) more.searches
    ∙ ap (λ l. old ++ l) (flat_map-append kind_found t.searches.items (s ∷ []) ∙ ap (λ l. found ++ l) (append-nothing (kind_found s)))
    ∙ sym (append_assoc old found (kind_found s))

cond-same : (b : Bool) (n : ℕ) → n ≡ cond b n n
cond-same true n = refl
cond-same false n = refl

abbrev pub found-count : Search → ℕ
found-count s = cond s.found 1 0

same-count : (q : EventKind) (s : Search) (b : Bool) → s.found ≡ b
    → count_by (same_kind q) (kind_found s) ≡ cond (same_kind q s.kind) (found-count s) 0
same-count q s false found = rw found (cond-same (same_kind q s.kind) 0)
same-count q s true found = rw found (zero-add (cond (same_kind q s.kind) 1 0))

-- where the last search ended, for the kind of a search that ended so many events behind and for any other
place-more : (es : List LogEntry) (t : TakenEvents) (s : Search) (n : ℕ) (q : EventKind) (b : Bool) → same_kind q s.kind ≡ b
    → IsSearchState es t → IsBehind es s.kind (last_end s.kind t) n s.end
    → ((cond b s.end (last_end q t)).entry ≤ length es)
    × ((before es q (cond b s.end (last_end q t)) ≡ count_by (same_kind q) (taken_by es t) + cond b n 0)
    × IsReached es q (cond b s.end (last_end q t)))
place-more es t s n q true is k f =
    let same : s.kind ≡ q = sym (same-kind q s.kind is) in
    let at : before es s.kind s.end ≡ count_by (same_kind s.kind) (taken_by es t) + n = f.place ∙ ap (λ m. m + n) (k.taken s.kind) in
    (f.within, (rw same at at, rw same at f.reached))
place-more es t s n q false is k f = (k.within q, (k.taken q ∙ sym (add-zero (count_by (same_kind q) (taken_by es t))), k.reached q))

-- what holds no event that is left holds none when more is taken
clear-more : (es : List LogEntry) (t : TakenEvents) (s : Search) (u : TakenEvents) (q : EventsSought) → IsOneMore t s u → IsSearchState es t
    → AreClear es u q (cleared_count u.cleared q)
clear-more es t s u q more k =
    let n = cleared_count t.cleared q in
    rw more.cleared (
      (k.clear q).0,
      ap (λ ts. first_so (is_sought q ts) [] (flat_map events (take n es))) (taken-more es t s u more)
          ∙ none-more q (taken_by es t) (kind_found s) [] (flat_map events (take n es)) (k.clear q).1,
    )

-- the places are known after a search from the last one's end
pub known-search : (es : List LogEntry) (t : TakenEvents) (s : Search) (u : TakenEvents) → IsOneMore t s u → IsSearchState es t
    → IsBehind es s.kind (last_end s.kind t) (found-count s) s.end → IsSearchState es u
known-search es t s u more k f =
    record {
      forgotten = rw more.forgotten k.forgotten;
      within = λ q. rw (last-more q t s u more) (place-more es t s (found-count s) q (same_kind q s.kind) refl k f).0;
      taken = λ q.
          ap (before es q) (last-more q t s u more)
          ∙ (place-more es t s (found-count s) q (same_kind q s.kind) refl k f).1.0
          ∙ ap (λ n. count_by (same_kind q) (taken_by es t) + n) (sym (same-count q s s.found refl))
          ∙ sym (sum_by-append (λ x. cond (same_kind q x) 1 0) (taken_by es t) (kind_found s))
          ∙ ap (count_by (same_kind q)) (sym (taken-more es t s u more));
      reached = λ q. rw (last-more q t s u more) (place-more es t s (found-count s) q (same_kind q s.kind) refl k f).1.1;
      clear = λ q. clear-more es t s u q more k;
    }

-- ... or from the event that it found, which isn't taken
pub before-found : (es : List LogEntry) (kind : EventKind) (from : LogPlace) (event : Option Event) (end : LogPlace) → Finds es kind from event end
    → IsBehind es kind from 0 (place_before event end)
before-found es kind from None end f = f.behind
before-found es kind from (Some e) end f =
    let place = f.behind.place in
    let some = f.some in
    let reached = f.behind.reached in
    record { within = f.behind.within; place = omega (arith, place, some); reached = omega (arith, reached, some) }

pub behind-found : (es : List LogEntry) (s : Search) (from : LogPlace) (event : Option Event) → Finds es s.kind from event s.end → s.found ≡ is_some event
    → IsBehind es s.kind from (found-count s) s.end
behind-found es s from None f found = rw found f.behind
behind-found es s from (Some e) f found = rw found f.behind

same-host : (which q : Option ℕ) → same_host q which ≡ true → q ≡ which
same-host None None h = refl
same-host None (Some k) h = cc
same-host (Some j) None h = cc
same-host (Some j) (Some k) h = ap Some (grind (arith, nat_tests))

same-search : (q r : EventsSought) → same_search r q ≡ true → r ≡ q
same-search (sought.Losses which) (sought.Losses other) h = ap sought.Losses (same-host which other h)
same-search (sought.Losses which) sought.Messages h = cc
same-search sought.Messages (sought.Losses which) h = cc
same-search sought.Messages sought.Messages h = refl

clear-kept : (es : List LogEntry) (t : TakenEvents) (q r : EventsSought) (n m : ℕ) (b : Bool) → same_search r q ≡ b → AreClear es t q n → AreClear es t r m
    → AreClear es t r (cond b n m)
clear-kept es t q r n m true is new old = subst (λ w. AreClear es t w n) (sym (same-search q r is)) new
clear-kept es t q r n m false is new old = old

-- and after a search for losses or messages
pub known-cleared : (es : List LogEntry) (t : TakenEvents) (q : EventsSought) (n : ℕ) (c : Cleared) → IsSearchState es t → AreClear es t q n
    → KeepsCleared q n t.cleared c → IsSearchState es (record t { cleared = c })
known-cleared es t q n c k new keeps =
    record {
      forgotten = k.forgotten;
      within = k.within;
      taken = k.taken;
      reached = k.reached;
      clear = λ r. rw (keeps r) (clear-kept es t q r n (cleared_count t.cleared r) (same_search r q) refl new (k.clear r));
    }

-- what a search finds is the oldest event that wasn't taken
pub next-found : (core : CoreData) (t : TakenEvents) (kind : EventKind) (event : Option Event) (end : LogPlace) → IsSearchState core.log t
    → Finds core.log kind (last_end kind t) event end → event ≡ next_event (past_of core) (taken_by core.log t) kind
next-found core t kind event end k f =
    f.event_is ∙ ap (slice_get (filter (is_of_kind kind) (flat_map events core.log))) (k.taken kind)
    ∙ ap (λ l. slice_get (filter (is_of_kind kind) l) (count_by (same_kind kind) (taken_by core.log t))) (sym (events-of-log core.log))

with-found : (kind : EventKind) (ts : List EventKind) (s : Search) (event : Option Event) → s.kind ≡ kind → s.found ≡ is_some event
    → ts ++ kind_found s ≡ with_taken event kind ts
with-found kind ts s None same found = rw found (append-nothing ts)
with-found kind ts s (Some e) same found = rw (found, same) refl

-- and that is taken
pub taken-found : (core : CoreData) (t : TakenEvents) (s : Search) (u : TakenEvents) (event : Option Event) → IsOneMore t s u → IsSearchState core.log t
    → Finds core.log s.kind (last_end s.kind t) event s.end → s.found ≡ is_some event
    → taken_by core.log u ≡ with_taken (next_event (past_of core) (taken_by core.log t) s.kind) s.kind (taken_by core.log t)
taken-found core t s u event more k f found =
    taken-more core.log t s u more ∙ with-found s.kind (taken_by core.log t) s event refl found
    ∙ ap (λ e. with_taken e s.kind (taken_by core.log t)) (next-found core t s.kind event s.end k f)

-- but nothing by a search that found nothing
pub taken-none : (es : List LogEntry) (t : TakenEvents) (s : Search) (u : TakenEvents) → IsOneMore t s u → s.found ≡ false → taken_by es u ≡ taken_by es t
taken-none es t s u more none =
    taken-more es t s u more ∙ with-found s.kind (taken_by es t) s None refl none
