-- Searches for losses and for messages that aren't taken.
use Rattle.std.proofs.Common.{◌≡◌, ◌∙◌, ℕ, ◌+◌, ◌≤◌, ◌&&◌, Bool, true, false, cond, List, [], ◌∷◌, ◌++◌, Option, None, refl, sym, ap, arith, length, take}
use Rattle.std.specs.Prelude.{count_by, flat_map, nat_le, nat_lt, replicate, slice_index}
use Rattle.std.proofs.lemmas.Bool.Decides.{nat_tests}
use Rattle.std.proofs.lemmas.List.{get_or-replicate, length-replicate}
use Rattle.std.proofs.lemmas.List.Sums.{sum_by-append}
use Rattle.lin_core.specs.History.{events}
use Rattle.lin_core.specs.declared.event.Event.{Event}
use Rattle.lin_core.specs.declared.event.Event.TheVariants as event
use Rattle.lin_core.specs.declared.link.Cause.{Cause}
use Rattle.lin_core.specs.declared.log.LogEntry.{LogEntry}
use Rattle.lin_bench.specs.LeftEvents.{is_left}
use Rattle.lin_bench.specs.Searches.{AreClear, is_sought, taken_by}
use Rattle.lin_bench.specs.Verdicts.{first_so, is_host, is_loss_left, is_message_left, is_of_kind, same_kind}
use Rattle.lin_bench.specs.declared.taken.EventKind.{EventKind}
use Rattle.lin_bench.specs.declared.taken.EventKind.TheVariants as kind
use Rattle.lin_bench.specs.declared.taken.EventsSought.{EventsSought}
use Rattle.lin_bench.specs.declared.taken.EventsSought.TheVariants.{Losses, Messages}
use Rattle.lin_bench.specs.declared.taken.TakenEvents.{TakenEvents}
use Rattle.lin_bench.proofs.FirstEvents.{fewer, le-false, more-of, not-this, passed-over, taken-of, this-one}
use Rattle.lin_bench.proofs.LeftEvents.{message-taken}
use Rattle.lin_bench.proofs.Makes.{append-nothing}
use Rattle.lin_bench.proofs.Walks.{beyond}

-- what is taken stays taken
le-more : (m k n : ℕ) (b : Bool) → b && nat_le m n ≡ false → b && nat_le (m + k) n ≡ false
le-more m k n true h = grind (arith, nat_tests)
le-more m k n false h = refl

loss-still-taken : (which : Option ℕ) (taken more : List EventKind) (before : List Event) (e : Event) → is_loss_left which taken before e ≡ false
    → is_loss_left which (taken ++ more) before e ≡ false
loss-still-taken which taken more before (event.Lost host number cause) h =
    let both = sum_by-append (λ x. cond (same_kind (kind.Fates host) x) 1 0) taken more in
    ap (λ n. is_host which host && nat_le n (count_by (is_of_kind (kind.Fates host)) before)) both
    ∙ le-more (count_by (same_kind (kind.Fates host)) taken) (count_by (same_kind (kind.Fates host)) more) (count_by (is_of_kind (kind.Fates host)) before) (is_host which host) h
loss-still-taken which taken more before (event.Accepted host number) h = refl
loss-still-taken which taken more before (event.Slot table entry header) h = refl
loss-still-taken which taken more before event.Service h = refl
loss-still-taken which taken more before (event.Due node) h = refl
loss-still-taken which taken more before (event.Put node answer) h = refl
loss-still-taken which taken more before (event.Seen how) h = refl
loss-still-taken which taken more before (event.Message from to bytes) h = refl
loss-still-taken which taken more before (event.Sent host number) h = refl
loss-still-taken which taken more before event.Asleep h = refl

message-still-taken : (taken more : List EventKind) (before : List Event) (e : Event) → is_message_left taken before e ≡ false
    → is_message_left (taken ++ more) before e ≡ false
message-still-taken taken more before (event.Message from to bytes) h =
    let messages = kind.Messages from to in
    let both = sum_by-append (λ x. cond (same_kind messages x) 1 0) taken more in
    ap (λ n. nat_le n (count_by (is_of_kind messages) before)) both
    ∙ le-more (count_by (same_kind messages) taken) (count_by (same_kind messages) more) (count_by (is_of_kind messages) before) true h
message-still-taken taken more before (event.Accepted host number) h = refl
message-still-taken taken more before (event.Slot table entry header) h = refl
message-still-taken taken more before event.Service h = refl
message-still-taken taken more before (event.Due node) h = refl
message-still-taken taken more before (event.Put node answer) h = refl
message-still-taken taken more before (event.Seen how) h = refl
message-still-taken taken more before (event.Sent host number) h = refl
message-still-taken taken more before (event.Lost host number cause) h = refl
message-still-taken taken more before event.Asleep h = refl

still-taken : (sought : EventsSought) (taken more : List EventKind) (before : List Event) (e : Event) → is_sought sought taken before e ≡ false
    → is_sought sought (taken ++ more) before e ≡ false
still-taken (Losses which) taken more before e h = loss-still-taken which taken more before e h
still-taken Messages taken more before e h = message-still-taken taken more before e h

more-step : (sought : EventsSought) (taken more : List EventKind) (before es : List Event) (e : Event) (b : Bool) → is_sought sought taken before e ≡ b
    → (first_so (is_sought sought taken) (before ++ e ∷ []) es ≡ None → first_so (is_sought sought (taken ++ more)) (before ++ e ∷ []) es ≡ None)
    → first_so (is_sought sought taken) before (e ∷ es) ≡ None → first_so (is_sought sought (taken ++ more)) before (e ∷ es) ≡ None
more-step sought taken more before es e true is rest h =
    let some = sym (this-one (is_sought sought taken) before es e is) ∙ h in cc
more-step sought taken more before es e false is rest h =
    not-this (is_sought sought (taken ++ more)) before es e false (still-taken sought taken more before e is) refl
    ∙ rest (sym (not-this (is_sought sought taken) before es e false is refl) ∙ h)

pub none-more : (sought : EventsSought) (taken more : List EventKind) (before es : List Event) → first_so (is_sought sought taken) before es ≡ None
    → first_so (is_sought sought (taken ++ more)) before es ≡ None
none-more sought taken more before [] h = refl
none-more sought taken more before (e ∷ es) h =
    more-step sought taken more before es e (is_sought sought taken before e) refl (none-more sought taken more (before ++ e ∷ []) es) h

-- ---- what is forgotten is taken
pub same-host : (h : ℕ) → is_of_kind (kind.Fates h) (event.Sent h 0) ≡ true
same-host h = grind (arith, nat_tests)

not-left : (which : Option ℕ) (taken : List EventKind) (before : List Event) (e : Event) (es : List Event)
    → ((h : ℕ) → count_by (is_of_kind (kind.Fates h)) (before ++ e ∷ es) ≤ count_by (same_kind (kind.Fates h)) taken)
    → is_loss_left which taken before e ≡ false
not-left which taken before (event.Lost host number cause) es few =
    let more = more-of (kind.Fates host) before (event.Lost host number cause) es (same-host host) in
    le-false (count_by (same_kind (kind.Fates host)) taken) (count_by (is_of_kind (kind.Fates host)) before) (is_host which host) (omega (arith, few host, more))
not-left which taken before (event.Accepted host number) es few = refl
not-left which taken before (event.Slot table entry header) es few = refl
not-left which taken before event.Service es few = refl
not-left which taken before (event.Due node) es few = refl
not-left which taken before (event.Put node answer) es few = refl
not-left which taken before (event.Seen how) es few = refl
not-left which taken before (event.Message from to bytes) es few = refl
not-left which taken before (event.Sent host number) es few = refl
not-left which taken before event.Asleep es few = refl

sought-taken : (sought : EventsSought) (taken : List EventKind) (before : List Event) (e : Event) (es : List Event)
    → ((k : EventKind) → count_by (is_of_kind k) (before ++ e ∷ es) ≤ count_by (same_kind k) taken)
    → is_sought sought taken before e ≡ false
sought-taken (Losses which) taken before e es few = not-left which taken before e es (λ h. few (kind.Fates h))
sought-taken Messages taken before e es few = message-taken taken before e es few

pub clear-at-first : (sought : EventsSought) (es : List LogEntry) (t : TakenEvents) (n : ℕ) → t.forgotten ≤ length es → n ≤ t.forgotten
    → AreClear es t sought n
clear-at-first sought es t n within h =
    let first = flat_map events (take n es) in
    let p = is_sought sought (taken_by es t) in (
      omega (arith, within, h),
      ap (first_so p []) (sym (append-nothing first))
          ∙ passed-over p [] first []
          (λ xs e ys same. sought-taken sought (taken_by es t) xs e ys
          (λ k. let count = ap (count_by (is_of_kind k)) same in
          omega (arith, count, fewer k es n t.forgotten h, taken-of es t k))),
    )

small : (n k h : ℕ) → n ≤ h → length {A = ℕ} (replicate n k) ≤ h
small n k h few =
    let long : length {A = ℕ} (replicate n k) ≡ n = length-replicate {A = ℕ} n k in
    omega (arith, long, few)

at-most : (n k h : ℕ) (b : Bool) → nat_lt h n ≡ b → slice_index (replicate n k) h ≤ k
at-most n k h true e = rw (get_or-replicate n h k 0 (grind (arith, nat_tests))) (omega arith)
at-most n k h false e = rw (beyond (replicate n k) h (small n k h (grind (arith, nat_tests)))) (omega arith)

pub each-at-most : (n k h : ℕ) → slice_index (replicate n k) h ≤ k
each-at-most n k h = at-most n k h (nat_lt h n) refl

pub lost-left : (which : Option ℕ) (taken : List EventKind) (before : List Event) (e : Event) (host number : ℕ) (cause : Cause) → e ≡ event.Lost host number cause
    → is_host which host ≡ true → is_left taken (kind.Fates host) before ≡ is_loss_left which taken before e
lost-left which taken before e host number cause is own = rw is (ap (λ b. b && is_left taken (kind.Fates host) before) (sym own))
