-- The last entry of a log that finished a slot.
use Rattle.std.proofs.Common.{◌≡◌, ◌∙◌, ◌+◌, ◌<◌, ◌++◌, ℕ, List, [], ◌∷◌, Some, true, false, refl, sym, ap, get_or, length, reverse, take}
use Rattle.std.proofs.lemmas.List.{reverse-append, take_more}
use Rattle.lin_core.specs.History.{did, is_finish}
use Rattle.lin_core.specs.declared.log.LogEntry.{LogEntry}
use Rattle.lin_log.specs.LastFinish.{before_last_finish}

pub newest-first : (es : List LogEntry) (i : ℕ) (e : LogEntry) → i < length es → e ≡ get_or es i e → reverse (take (i + 1) es) ≡ e ∷ reverse (take i es)
newest-first es i e h is =
    ap reverse (take_more es i e h ∙ ap (λ x. take i es ++ x ∷ []) (sym is)) ∙ reverse-append (take i es) (e ∷ [])

pub finished-here : (e : LogEntry) (past : List LogEntry) → did is_finish e ≡ true → before_last_finish (e ∷ past) ≡ Some past
finished-here e past is = rw is refl

pub finished-before : (e : LogEntry) (past : List LogEntry) → did is_finish e ≡ false → before_last_finish (e ∷ past) ≡ before_last_finish past
finished-before e past is = rw is refl
