-- Errors that are told after a finish.
use Rattle.std.proofs.Common.{◌≡◌, ◌∙◌, ℕ, ◌+◌, ◌-◌, ◌<◌, true, List, [], ◌∷◌, ◌++◌, filter_map, length, get_or, reverse, take, Option, Some, None, refl, sym, ap, arith, append_assoc}
use Rattle.std.specs.Prelude.{option_map}
use Rattle.std.specs.List.{cons_option}
use Rattle.std.proofs.lemmas.List.{take_more, reverse-reverse}
use Rattle.std.proofs.lemmas.List.Elements.{filter_map-append}
use Rattle.lin_parts.specs.declared.parts.Parts.{Parts}
use Rattle.lin_core.specs.Core.{CoreData, past_of}
use Rattle.lin_core.specs.History.{Slot, events, good, open_slot, seen_of}
use Rattle.lin_core.specs.Replies.{may}
use Rattle.lin_core.specs.Runs.{entry_of}
use Rattle.lin_core.specs.declared.log.LogEntry.{LogEntry}
use Rattle.lin_core.specs.declared.port.PortId.{PortId}
use Rattle.lin_core.specs.declared.step.Step.{Step}
use Rattle.lin_core.specs.declared.step.Step.TheVariants.{Finish}
use Rattle.lin_bench.specs.Adding.{HasFinished, damaged_in, finish_of, good_in}
use Rattle.lin_bench.specs.Carried.{KeepsOpenSlot, shape, shape_in}
use Rattle.lin_bench.specs.Errors.{ended_slot, error_told, errors_told, is_damaged_seen}
use Rattle.lin_bench.specs.declared.carried.OpenSlot.{OpenSlot}
use Rattle.lin_bench.specs.declared.errors.EndedSlot.{EndedSlot}
use Rattle.lin_bench.proofs.HeardLinks.{finish-done, finished-slot, good-told}
use Rattle.lin_bench.proofs.Makes.{ends-so, length-last, newest-past}

-- a step of a loop that adds what there is of each item
pub told_step : {A B : Type 0} (f : A → Option B) (xs : List A) (i : ℕ) (x : A) (before found more : List B) → i < length xs → x ≡ get_or xs i x → found ≡ before ++ filter_map f (take i xs) → more ≡ found ++ cons_option (f x) [] → more ≡ before ++ filter_map f (take (i + 1) xs)
told_step f xs i x before found more h is so here =
    here ∙ ap (λ ys. ys ++ cons_option (f x) []) so ∙ append_assoc before (filter_map f (take i xs)) (cons_option (f x) [])
    ∙ ap (λ ys. before ++ ys)
    (sym (filter_map-append f (take i xs) (x ∷ [])) ∙ ap (λ y. filter_map f (take i xs ++ y ∷ [])) is ∙ ap (filter_map f) (sym (take_more xs i x h)))

pub damaged-told : (c : Parts) (o cap : ℕ) (past : List LogEntry) (by : PortId) (s : Slot) → open_slot past ≡ Some s → may by Finish ≡ true
    → damaged_in (events (entry_of c o cap past (by, Finish))) ≡ is_damaged_seen (seen_of s)
damaged-told c o cap past by s e m = rw (finish-done c o cap past by s e m) (rw e refl)

-- what is told of the slot that was finished
pub errors-told : (core : CoreData) (by : PortId) (past : List LogEntry) (s : Slot) (offs : List ℕ) → HasFinished core by past s
    → filter_map (error_told core.cluster (past_of core) (ended_slot core.cluster s) offs) core.cluster.errors
    ≡ errors_told core.cluster (finish_of core past by) past offs true
errors-told core by past s offs fin =
    rw (finished-slot core.cluster core.opening core.capacity past by s fin.slot fin.may, fin.newest) refl

-- ---- the slot that was open before the newest entry
front-of : {A : Type 0} (xs : List A) (e : A) → take (length xs) (xs ++ e ∷ []) ≡ xs
front-of [] e = refl
front-of (x ∷ xs) e = ap (λ l. x ∷ l) (front-of xs e)

before-newest : (core : CoreData) (e : LogEntry) (past : List LogEntry) → past_of core ≡ e ∷ past → reverse (take (length core.log - 1) core.log) ≡ past
before-newest core e past h =
    let is : core.log ≡ reverse past ++ e ∷ [] = ends-so core.log past e h in
    let n : length core.log - 1 ≡ length (reverse past) = let l = ap length is ∙ length-last (reverse past) e in omega (arith, l) in
    ap (λ i. reverse (take i core.log)) n ∙ ap (λ l. reverse (take (length (reverse past)) l)) is ∙ ap reverse (front-of (reverse past) e)
    ∙ reverse-reverse past

some-is : {A : Type 0} (x y : A) → Some x ≡ Some y → x ≡ y
some-is x y e = cc

kept-shape : (core : CoreData) (by : PortId) (past : List LogEntry) (s : Slot) (kept : Option OpenSlot) → HasFinished core by past s
    → KeepsOpenSlot kept (reverse (take (length core.log - 1) core.log)) → option_map shape_in kept ≡ Some (shape s)
kept-shape core by past s kept fin is =
    is ∙ ap (λ l. option_map shape (open_slot l)) (before-newest core (finish_of core past by) past fin.newest) ∙ ap (option_map shape) fin.slot

pub ended-told : (core : CoreData) (by : PortId) (past : List LogEntry) (s : Slot) (slot : OpenSlot) (newest : LogEntry) (o : EndedSlot) → HasFinished core by past s
    → KeepsOpenSlot (Some slot) (reverse (take (length core.log - 1) core.log)) → newest ≡ get_or core.log (length core.log - 1) newest
    → (shape_in slot ≡ shape s → good_in (events newest) ≡ good s → damaged_in (events newest) ≡ is_damaged_seen (seen_of s) → o ≡ ended_slot core.cluster s)
    → Some o ≡ Some (ended_slot core.cluster s)
ended-told core by past s slot newest o fin kept new is =
    let e = newest-past core (finish_of core past by) newest past fin.newest new in
    let same : shape_in slot ≡ shape s = some-is (shape_in slot) (shape s) (kept-shape core by past s (Some slot) fin kept) in
    ap Some
    (is same (rw e (good-told core.cluster core.opening core.capacity past by s fin.slot fin.may))
    (rw e (damaged-told core.cluster core.opening core.capacity past by s fin.slot fin.may)))

pub none-ended : (core : CoreData) (by : PortId) (past : List LogEntry) (s : Slot) → HasFinished core by past s
    → KeepsOpenSlot None (reverse (take (length core.log - 1) core.log)) → None ≡ Some (ended_slot core.cluster s)
none-ended core by past s fin kept = let no = kept-shape core by past s None fin kept in absurd (cc)

-- ---- what is added
pub writes-told : (core : CoreData) (by : PortId) (past : List LogEntry) (s : Slot) (o : EndedSlot) (offs : List ℕ) (before after : List (PortId × Step)) → HasFinished core by past s
    → Some o ≡ Some (ended_slot core.cluster s) → after ≡ before ++ filter_map (error_told core.cluster (past_of core) o offs) core.cluster.errors
    → after ≡ before ++ errors_told core.cluster (finish_of core past by) past offs true
writes-told core by past s o offs before after fin same is =
    is ∙ ap (λ x. before ++ filter_map (error_told core.cluster (past_of core) x offs) core.cluster.errors) (some-is o (ended_slot core.cluster s) same)
    ∙ ap (λ l. before ++ l) (errors-told core by past s offs fin)
