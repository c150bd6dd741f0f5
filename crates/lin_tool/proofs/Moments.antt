-- What of a log is told, entry by entry.
use Rattle.std.proofs.Common.{◌≡◌, ◌≤◌, ◌-◌, ℕ, zero, suc, List, [], ◌∷◌, ◌++◌, refl, sym, ap, ◌∙◌, get_or, length, take, ◌+◌, ◌<◌, arith}
use Rattle.std.specs.Prelude.{codes}
use Rattle.std.specs.Fmt.{decimal}
use Rattle.std.proofs.lemmas.List.{take_more}
use Rattle.lin_core.specs.History.{Slot, slot_after_event, slot_after_events}
use Rattle.lin_core.specs.declared.event.Event.{Event}
use Rattle.lin_tool.specs.Placing.{last_slot_text}

after-both : (xs ys : List Event) (s : Slot) → slot_after_events (xs ++ ys) s ≡ slot_after_events ys (slot_after_events xs s)
after-both [] ys s = refl
after-both (x ∷ xs) ys s = after-both xs ys (slot_after_event x s)

-- one event more
pub events-next : (es : List Event) (i : ℕ) (e : Event) (s : Slot) → e ≡ get_or es i e → i < length es
    → slot_after_events (take (i + 1) es) s ≡ slot_after_event e (slot_after_events (take i es) s)
events-next es i e s is h =
    ap (λ (l : List Event). slot_after_events l s) (take_more es i e h) ∙ after-both (take i es) (get_or es i e ∷ []) s
    ∙ ap (λ (x : Event). slot_after_event x (slot_after_events (take i es) s)) (sym is)

pub last-some : (n : ℕ) → 1 ≤ n → codes "slot " ++ decimal (n - 1) ≡ last_slot_text n
last-some zero h = absurd (omega arith)
last-some (suc n) h = let e : suc n - 1 ≡ n = omega arith in rw e refl
