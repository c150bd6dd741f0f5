-- A bench goes back to a mark: the steps of the first entries of a log, made again, give these entries.
use Rattle.std.proofs.Common.{◌≡◌, ◌∙◌, ◌≤◌, ℕ, zero, suc, List, [], ◌∷◌, ◌++◌, ap, arith, drop, length, refl, reverse, subst, sym, take}
use Rattle.std.proofs.lemmas.List.{reverse-append, reverse-reverse, take_all}
use Rattle.lin_parts.specs.declared.parts.Parts.{Parts}
use Rattle.lin_core.specs.Core.{CoreData, IsAlike, IsHistory, past_of}
use Rattle.lin_core.specs.Runs.{history, steps_of}
use Rattle.lin_core.specs.declared.port.PortId.{PortId}
use Rattle.lin_core.specs.declared.step.Step.{Step}
use Rattle.lin_core.specs.declared.log.LogEntry.{LogEntry}
use Rattle.lin_log.proofs.Runs.{steps_of-reverse}
use Rattle.lin_bench.specs.Adding.{AreAdded}
use Rattle.lin_bench.specs.Searches.{IsSearchState, taken_by}
use Rattle.lin_bench.specs.Slots.{past_after}
use Rattle.lin_bench.specs.declared.taken.TakenEvents.{TakenEvents}
use Rattle.lin_bench.proofs.Makes.{after-history}

-- a history without its newest entries is a history
older-history : (c : Parts) (o cap : ℕ) (more past : List LogEntry) → more ++ past ≡ history c o cap (steps_of (more ++ past)) → past ≡ history c o cap (steps_of past)
older-history c o cap [] past h = h
older-history c o cap (e ∷ more) past h = older-history c o cap more past (ap (drop 1) h)

split-at : {A : Type 0} (n : ℕ) (xs : List A) → xs ≡ take n xs ++ drop n xs
split-at zero xs = refl
split-at (suc n) [] = refl
split-at (suc n) (x ∷ xs) = ap (λ l. x ∷ l) (split-at n xs)

pub first-again : (c : Parts) (o cap n : ℕ) (log : List LogEntry) → reverse log ≡ history c o cap (steps_of (reverse log))
    → past_after c o cap [] (steps_of (take n log)) ≡ reverse (take n log)
first-again c o cap n log h =
    let all : reverse log ≡ reverse (drop n log) ++ reverse (take n log) =
    ap reverse (split-at n log) ∙ reverse-append (take n log) (drop n log) in
    let first : reverse (take n log) ≡ history c o cap (steps_of (reverse (take n log))) =
    older-history c o cap (reverse (drop n log)) (reverse (take n log)) (subst (λ (l : List LogEntry). l ≡ history c o cap (steps_of l)) all h) in
    after-history c o cap [] (steps_of (take n log))
    ∙ ap (history c o cap) (sym (steps_of-reverse (take n log)))
    ∙ sym first

-- what expectations took, by another of the same searches
pub same-taken : (es : List LogEntry) (t u : TakenEvents) → u.forgotten ≡ t.forgotten → u.searches.items ≡ t.searches.items → u.cleared ≡ t.cleared
    → (IsSearchState es t → IsSearchState es u) × (taken_by es u ≡ taken_by es t)
same-taken es t u f s c = (
  λ k. record {
    forgotten = rw f k.forgotten;
    within = λ kind. rw (f, s) (k.within kind);
    taken = λ kind. rw (f, s) (k.taken kind);
    reached = λ kind. rw (f, s) (k.reached kind);
    clear = λ which. rw (f, s, c) (k.clear which);
  },
  rw (f, s) refl,
)

-- a core that makes the steps of the first entries of another one's log has these entries
pub back-log : (old fresh new : CoreData) (n : ℕ) (steps : List (PortId × Step)) → IsHistory old → steps ≡ steps_of (take n old.log)
    → fresh.log ≡ [] → IsAlike old fresh → AreAdded fresh steps new → (new.log ≡ take n old.log) × IsAlike old new
back-log old fresh new n steps history said empty alike added =
    let past : past_of new ≡ reverse (take n old.log) =
    added.past
    ∙ ap (λ (c : Parts). past_after c fresh.opening fresh.capacity (past_of fresh) steps) alike.0
    ∙ ap (λ o. past_after old.cluster o fresh.capacity (past_of fresh) steps) alike.1
    ∙ ap (λ cap. past_after old.cluster old.opening cap (past_of fresh) steps) alike.2
    ∙ ap (λ (l : List LogEntry). past_after old.cluster old.opening old.capacity (reverse l) steps) empty
    ∙ ap (past_after old.cluster old.opening old.capacity []) said
    ∙ first-again old.cluster old.opening old.capacity n old.log history in (
      sym (reverse-reverse new.log) ∙ ap reverse past ∙ reverse-reverse (take n old.log),
      (added.alike.0 ∙ alike.0, added.alike.1 ∙ alike.1, added.alike.2 ∙ alike.2),
    )

-- a mark of a bench as it is
pub mark-here : (log : List LogEntry) (n : ℕ) (t : TakenEvents) → n ≡ length log → IsSearchState log t
    → (n ≤ length log) × IsSearchState (take n log) t × (take n log ≡ log)
mark-here log n t is k =
    let whole : take n log ≡ log = take_all n log (omega (arith, is)) in
    (omega (arith, is), subst (λ (l : List LogEntry). IsSearchState l t) (sym whole) k, whole)
