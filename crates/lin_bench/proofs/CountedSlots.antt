-- How many slots were finished, as cores with rules count them.
use Rattle.std.proofs.Common.{◌≡◌, ◌∙◌, ℕ, suc, ◌+◌, ◌-◌, ◌<◌, ◌≤◌, Bool, true, false, cond, List, [], ◌∷◌, ◌++◌, length, reverse, get_or, refl, sym, ap, arith, is_some}
use Rattle.std.proofs.lemmas.List.{length-reverse, reverse-append}
use Rattle.lin_core.specs.Core.{CoreData, entry_with_reply, past_of}
use Rattle.lin_core.specs.History.{done, finished_slot, is_finish, open_slot}
use Rattle.lin_core.specs.Replies.{may}
use Rattle.lin_core.specs.declared.log.LogEntry.{LogEntry}
use Rattle.lin_core.specs.declared.port.PortId.{PortId}
use Rattle.lin_core.specs.declared.step.Step.{Step}
use Rattle.lin_core.specs.declared.step.Step.TheVariants.{Finish}
use Rattle.lin_bench.specs.Faults.{slots_finished}
use Rattle.lin_bench.proofs.HeardLinks.{finish-allowed, finished-slot, others-finish-none, refused-finishes-none}
use Rattle.lin_bench.proofs.Makes.{last-of, length-last}
use Rattle.lin_bench.proofs.RuledFinish.{finish-is}

-- as many as there are entries, at most
counted-few : (b : Bool) (n m : ℕ) → n ≤ m → cond b (suc n) n ≤ suc m
counted-few true n m h = omega arith
counted-few false n m h = omega arith

pub finished-few : (past : List LogEntry) → slots_finished past ≤ length past
finished-few [] = omega arith
finished-few (e ∷ past) = counted-few (is_some (finished_slot e past)) (slots_finished past) (length past) (finished-few past)

pub finished-before : (old new : CoreData) (by : PortId) (step : Step) (before : ℕ) → before ≡ slots_finished (past_of old)
    → new.log ≡ old.log ++ entry_with_reply old by step ∷ [] → before < length new.log
finished-before old new by step before counted log =
    let most = finished-few (past_of old) in
    let longer = ap length log ∙ length-last old.log (entry_with_reply old by step) in
    omega (arith, counted, most, longer, length-reverse old.log)

-- the history after a step that was logged
past-logged : (old : CoreData) (by : PortId) (step : Step) (log : List LogEntry) → log ≡ old.log ++ entry_with_reply old by step ∷ []
    → reverse log ≡ entry_with_reply old by step ∷ past_of old
past-logged old by step log h = ap reverse h ∙ reverse-append old.log (entry_with_reply old by step ∷ [])

-- a finish that was done counts
pub finish-counted : (old : CoreData) (by : PortId) (step : Step) (log : List LogEntry) (newest : LogEntry) (before : ℕ) → log ≡ old.log ++ entry_with_reply old by step ∷ []
    → newest ≡ get_or log (length log - 1) newest → is_finish step ≡ true → is_some (done newest) ≡ true → before ≡ slots_finished (past_of old)
    → before + 1 ≡ slots_finished (reverse log)
finish-counted old by step log newest before h is f d counted =
    let same = last-of log old.log (entry_with_reply old by step) newest h is in
    let finish = finish-is step f in
    let was_done = rw (same, finish) at d in
    let open_ = finish-allowed old.cluster old.opening old.capacity (past_of old) by (open_slot (past_of old)) (may by Finish) refl refl was_done in
    let now : slots_finished (reverse log) ≡ suc (slots_finished (past_of old)) =
    rw (past-logged old by step log h, finish, finished-slot old.cluster old.opening old.capacity (past_of old) by open_.0 open_.1 open_.2) refl in
    omega (arith, counted, now)

-- a finish that was refused doesn't, nor does another step
pub refused-counted : (old : CoreData) (by : PortId) (step : Step) (log : List LogEntry) (newest : LogEntry) (before : ℕ) → log ≡ old.log ++ entry_with_reply old by step ∷ []
    → newest ≡ get_or log (length log - 1) newest → is_some (done newest) ≡ false → before ≡ slots_finished (past_of old) → before ≡ slots_finished (reverse log)
refused-counted old by step log newest before h is d counted =
    let same = last-of log old.log (entry_with_reply old by step) newest h is in
    let none = rw same at d in
    counted ∙ sym (rw (past-logged old by step log h, refused-finishes-none (entry_with_reply old by step) (past_of old) none) refl)

pub other-counted : (old : CoreData) (by : PortId) (step : Step) (log : List LogEntry) (before : ℕ) → log ≡ old.log ++ entry_with_reply old by step ∷ [] → is_finish step ≡ false
    → before ≡ slots_finished (past_of old) → before ≡ slots_finished (reverse log)
other-counted old by step log before h f counted =
    counted ∙ sym (rw (past-logged old by step log h, others-finish-none old.cluster old.opening old.capacity (past_of old) by step f) refl)
