-- What the play of a row came to.
use Rattle.std.proofs.Common.{◌≡◌, ◌∙◌, ℕ, zero, suc, ◌+◌, ◌<◌, List, [], ◌∷◌, ◌++◌, refl, sym, ap, append_assoc, arith, drop, get_or, length, take}
use Rattle.lin_core.specs.declared.log.LogEntry.{LogEntry}
use Rattle.lin_export.proofs.Slots.{drop-next}
use Rattle.lin_tool.specs.campaign.Row.{new_refusal, refusal_on, refused_after}
use Rattle.lin_tool.specs.declared.campaign.row.RefusedStep.{RefusedStep}

pub drop-front : {X : Type 0} (xs ys : List X) (n : ℕ) → n ≡ length xs → drop n (xs ++ ys) ≡ ys
drop-front [] ys n e = rw e refl
drop-front (x ∷ xs) ys n e = rw e (drop-front xs ys (length xs) refl)

at-front : {X : Type 0} (xs : List X) (n i : ℕ) (d : X) → i < n → get_or (take n xs) i d ≡ get_or xs i d
at-front [] zero i d h = refl
at-front [] (suc n) i d h = refl
at-front (x ∷ xs) zero i d h = absurd (omega arith)
at-front (x ∷ xs) (suc n) zero d h = refl
at-front (x ∷ xs) (suc n) (suc i) d h = at-front xs n i d (omega arith)

-- one entry more
pub refused-next : (added new : List RefusedStep) (n : ℕ) (log : List LogEntry) (to i : ℕ) (e : LogEntry) → e ≡ get_or log i e → i < to → i < length (take to log)
    → new ≡ new_refusal added (refusal_on n e.reply)
    → (added ++ new) ++ refused_after (added ++ new) n (drop (i + 1) (take to log)) ≡ added ++ refused_after added n (drop i (take to log))
refused-next added new n log to i e is below h same =
    let es = take to log in
    let rest = refused_after (added ++ new) n (drop (i + 1) es) in
    append_assoc added new rest
    ∙ ap (λ w. added ++ (w ++ refused_after (added ++ w) n (drop (i + 1) es))) same
    ∙ ap (λ l. added ++ refused_after added n l) (sym (drop-next es i e (is ∙ sym (at-front log to i e below)) h))
