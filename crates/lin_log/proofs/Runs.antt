-- A log's steps, made again, give the log.
use Rattle.std.proofs.Common.{◌≡◌, ℕ, List, [], ◌∷◌, ◌++◌, refl, sym, ap, ◌∙◌, reverse, take, length, get_or, ◌+◌, ◌<◌, suc, zero, arith, add-one}
use Rattle.std.proofs.lemmas.List.{map-append, reverse-append, reverse-reverse}
use Rattle.lin_core.specs.Runs.{history, steps_of}
use Rattle.lin_core.specs.declared.log.LogEntry.{LogEntry}
use Rattle.lin_log.specs.Replay.{RunsAgain}

pub steps_of-reverse : (es : List LogEntry) → steps_of (reverse es) ≡ reverse (steps_of es)
steps_of-reverse [] = refl
steps_of-reverse (e ∷ es) =
    ap steps_of (reverse-append (e ∷ []) es) ∙ map-append (λ (x : LogEntry). (x.port, x.step)) (reverse es) (e ∷ [])
    ∙ ap (λ l. l ++ (e.port, e.step) ∷ []) (steps_of-reverse es) ∙ sym (reverse-append ((e.port, e.step) ∷ []) (steps_of es))

pub runs-again : (es : List LogEntry) → RunsAgain es (steps_of es)
runs-again es c opening capacity h =
    ap (λ l. reverse (history c opening capacity l)) (sym (steps_of-reverse es)) ∙ ap reverse (sym h) ∙ reverse-reverse es

-- one entry more
steps-next_suc : (es : List LogEntry) (i : ℕ) (d : LogEntry) → i < length es → steps_of (take (suc i) es) ≡ steps_of (take i es) ++ ((get_or es i d).port, (get_or es i d).step) ∷ []
steps-next_suc [] i d h = absurd (omega arith)
steps-next_suc (e ∷ es) zero d h = refl
steps-next_suc (e ∷ es) (suc i) d h = ap (λ l. (e.port, e.step) ∷ l) (steps-next_suc es i d (omega arith))

steps-next : (es : List LogEntry) (i : ℕ) (d : LogEntry) → i < length es → steps_of (take (i + 1) es) ≡ steps_of (take i es) ++ ((get_or es i d).port, (get_or es i d).step) ∷ []
steps-next es i d h = rw (add-one) (steps-next_suc es i d h)

-- the same of a borrowed entry
pub steps-next_is : (es : List LogEntry) (i : ℕ) (e : LogEntry) → e ≡ get_or es i e → i < length es → steps_of (take (i + 1) es) ≡ steps_of (take i es) ++ (e.port, e.step) ∷ []
steps-next_is es i e h lt = steps-next es i e lt ∙ ap (λ (x : LogEntry). steps_of (take i es) ++ (x.port, x.step) ∷ []) (sym h)
