-- One more entry in a log.
use Rattle.std.proofs.Common.{◌≡◌, ℕ, zero, suc, List, [], ◌∷◌, ◌++◌, reverse, map, length, refl, ap, sym, ◌∙◌}
use Rattle.std.specs.Prelude.{Option, Some, None, slice_get}
use Rattle.std.proofs.lemmas.List.{reverse-append, map-append}
use Rattle.std.specs.Option.{option_map_or}
use Rattle.lin_core.specs.kept.Hosts.{message_at, sent_in}
use Rattle.lin_core.specs.Links.{Message}
use Rattle.lin_core.specs.Core.{CoreData, IsHistory, entry_with_reply}
use Rattle.lin_core.specs.Replies.{reply}
use Rattle.lin_core.specs.declared.log.LogEntry.{LogEntry}
use Rattle.lin_core.specs.declared.port.PortId.{PortId}
use Rattle.lin_core.specs.declared.step.Step.{Step}

pub reverse-more : (log : List LogEntry) (e : LogEntry) → reverse (log ++ e ∷ []) ≡ e ∷ reverse log
reverse-more log e = reverse-append log (e ∷ [])

-- a history goes on by the entry that its step is answered
pub history-more : (core : CoreData) (by : PortId) (step : Step) → IsHistory core → IsHistory (record core { log = core.log ++ entry_with_reply core by step ∷ [] })
history-more core by step h =
    rw (reverse-more core.log (entry_with_reply core by step))
    (ap (λ (past : List LogEntry). record { port = by; step = step; reply = reply core.cluster core.opening core.capacity past by step } ∷ past) h)

-- what stands in a log stays at its place
get-stays : (log more : List LogEntry) (i : ℕ) (e : LogEntry) → slice_get log i ≡ Some e → slice_get (log ++ more) i ≡ Some e
get-stays [] more i e h = cc
get-stays (x ∷ xs) more zero e h = h
get-stays (x ∷ xs) more (suc i) e h = get-stays xs more i e h

get-last : (log : List LogEntry) (e : LogEntry) → slice_get (log ++ e ∷ []) (length log) ≡ Some e
get-last [] e = refl
get-last (x ∷ xs) e = get-last xs e

at-stays : (log : List LogEntry) (e : LogEntry) (i : ℕ) (m : Message) (o : Option LogEntry) → slice_get log i ≡ o → option_map_or (λ x. sent_in x.step) o None ≡ Some m → message_at (log ++ e ∷ []) i ≡ Some m
at-stays log e i m None g h = cc
at-stays log e i m (Some x) g h = rw (get-stays log (e ∷ []) i x g) h

message-stays : (log : List LogEntry) (e : LogEntry) (i : ℕ) (m : Message) → message_at log i ≡ Some m → message_at (log ++ e ∷ []) i ≡ Some m
message-stays log e i m h = at-stays log e i m (slice_get log i) refl h

-- so do the messages whose places are kept
pub messages-stay : (log : List LogEntry) (e : LogEntry) (is : List ℕ) (ms : List Message) → map (message_at log) is ≡ map Some ms → map (message_at (log ++ e ∷ [])) is ≡ map Some ms
messages-stay log e [] [] h = refl
messages-stay log e [] (m ∷ ms) h = cc
messages-stay log e (i ∷ is) [] h = cc
messages-stay log e (i ∷ is) (m ∷ ms) h =
    let front : message_at log i ≡ Some m = cc
    in let rest : map (message_at log) is ≡ map Some ms = cc
    in rw (message-stays log e i m front) (ap (λ (os : List (Option Message)). Some m ∷ os) (messages-stay log e is ms rest))

-- and a send that is logged now has the last place
pub messages-more : (log : List LogEntry) (e : LogEntry) (is : List ℕ) (ms : List Message) (m : Message) → sent_in e.step ≡ Some m → map (message_at log) is ≡ map Some ms
    → map (message_at (log ++ e ∷ [])) (is ++ length log ∷ []) ≡ map Some (ms ++ m ∷ [])
messages-more log e is ms m s h =
    map-append (message_at (log ++ e ∷ [])) is (length log ∷ [])
    ∙ rw (messages-stay log e is ms h, get-last log e, s) (sym (map-append Some ms (m ∷ [])))
