-- Events that no expectation has taken.
use Rattle.std.proofs.Common.{◌≡◌, ◌≤◌, ◌+◌, ℕ, List, ◌∷◌, ◌++◌, ap, arith, false, length, refl, take, true}
use Rattle.std.specs.Prelude.{count_by, flat_map}
use Rattle.std.proofs.lemmas.Bool.Decides.{nat_tests}
use Rattle.std.proofs.lemmas.List.{take_all}
use Rattle.lin_core.specs.History.{events}
use Rattle.lin_core.specs.declared.event.Event.{Event}
use Rattle.lin_core.specs.declared.event.Event.TheVariants as event
use Rattle.lin_core.specs.declared.log.LogEntry.{LogEntry}
use Rattle.lin_bench.specs.LeftEvents.{is_left}
use Rattle.lin_bench.specs.Searches.{IsSearchState, last_end}
use Rattle.lin_bench.specs.Verdicts.{is_message_left, is_of_kind, same_kind}
use Rattle.lin_bench.specs.declared.taken.EventKind.{EventKind}
use Rattle.lin_bench.specs.declared.taken.EventKind.TheVariants.{Messages}
use Rattle.lin_bench.specs.declared.taken.TakenEvents.{TakenEvents}
use Rattle.lin_bench.proofs.FirstEvents.{fewer, le-false, more-of}

-- the first entries have as many events of a kind as all, at most
pub at-most-all : (kind : EventKind) (es : List LogEntry) (n : ℕ)
    → count_by (is_of_kind kind) (flat_map events (take n es)) ≤ count_by (is_of_kind kind) (flat_map events es)
at-most-all kind es n =
    let more = fewer kind es n (n + length es) (omega arith) in
    let all = ap (λ l. count_by (is_of_kind kind) (flat_map events l)) (take_all (n + length es) es (omega arith)) in
    omega (arith, more, all)

-- as many events of a kind as are taken stand in a log
pub taken-at-most : (es : List LogEntry) (t : TakenEvents) (kind : EventKind) → IsSearchState es t
    → count_by (is_of_kind kind) (flat_map events (take (last_end kind t).entry es)) + (last_end kind t).events
    ≤ count_by (is_of_kind kind) (flat_map events es)
taken-at-most es t kind k =
    let reached = k.reached kind in
    let all = at-most-all kind es ((last_end kind t).entry + 1) in
    omega (arith, reached, all)

-- ---- messages of all hosts
pub same-pair : (from to : ℕ) (bytes : List ℕ) → is_of_kind (Messages from to) (event.Message from to bytes) ≡ true
same-pair from to bytes = grind (arith, nat_tests)

pub message-left : (taken : List EventKind) (before : List Event) (e : Event) (from to : ℕ) (bytes : List ℕ) → e ≡ event.Message from to bytes
    → is_left taken (Messages from to) before ≡ is_message_left taken before e
message-left taken before e from to bytes is = rw is refl

pub message-taken : (taken : List EventKind) (before : List Event) (e : Event) (es : List Event)
    → ((kind : EventKind) → count_by (is_of_kind kind) (before ++ e ∷ es) ≤ count_by (same_kind kind) taken)
    → is_message_left taken before e ≡ false
message-taken taken before (event.Message from to bytes) es few =
    let kind = Messages from to in
    let more = more-of kind before (event.Message from to bytes) es (same-pair from to bytes) in
    le-false (count_by (same_kind kind) taken) (count_by (is_of_kind kind) before) true (omega (arith, few kind, more))
message-taken taken before (event.Accepted host number) es few = refl
message-taken taken before (event.Slot table entry header) es few = refl
message-taken taken before event.Service es few = refl
message-taken taken before (event.Due node) es few = refl
message-taken taken before (event.Put node answer) es few = refl
message-taken taken before (event.Seen how) es few = refl
message-taken taken before (event.Sent host number) es few = refl
message-taken taken before (event.Lost host number cause) es few = refl
message-taken taken before event.Asleep es few = refl
