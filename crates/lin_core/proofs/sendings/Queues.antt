-- What waits, by what is known of a host.
use Rattle.std.proofs.Common.{◌≡◌, ℕ, List, [], ◌∷◌, length, map, refl, ap, sym, ◌∙◌}
use Rattle.std.specs.Prelude.{filter, ◌+◌}
use Rattle.lin_parts.specs.declared.parts.Parts.{Parts}
use Rattle.lin_core.specs.Links.{Message, Fate, Sending, sendings, accepted_from, waiting, blocks, is_waiting}
use Rattle.lin_parts.specs.Sound.{IsSound}
use Rattle.lin_core.specs.declared.log.LogEntry.{LogEntry}
use Rattle.lin_core.proofs.steps.Known.{Known}
use Rattle.std.proofs.lemmas.List.{length-append, length-map, append_cancel_left}
use Rattle.lin_core.specs.kept.Hosts.{message_of as waiting_message}
use Rattle.lin_core.proofs.sendings.Hosts.{outcome, message_of}
use Rattle.lin_core.proofs.links.Results.{waiting_one, outcomes}
use Rattle.lin_core.proofs.laws.Ends.{Held, held-now}
use Rattle.lin_core.proofs.laws.Fixed.{waiting-messages}
use Rattle.lin_core.proofs.laws.Calm.{waits-outcomes, done-still, waiting-all}

-- the messages that wait are those that a host's state has left
messages-of : (c : Parts) (xs : List Sending) → map waiting_message xs ≡ map message_of (map (outcome c) xs)
messages-of c [] = refl
messages-of c (x ∷ xs) = ap (λ (ms : List Message). x.message ∷ ms) (messages-of c xs)

pub waiting-are : (c : Parts) (past : List LogEntry) (h : ℕ) → IsSound c → (k : Known c past) → map waiting_message (waiting c past h) ≡ (k.states h).rest
waiting-are c past h sound k =
    let done : List (Message × Fate) = (k.states h).done
    in let a : Held c past h done = held-now c past h sound k
    in let still : filter (λ (p : Message × Fate). is_waiting p.1) (map (outcome c) (sendings c past h)) ≡ map waiting_one a.rest
    = ap (filter (λ (p : Message × Fate). is_waiting p.1)) (outcomes c h (blocks c past) (accepted_from past h) done a.rest a.block a.holds)
    ∙ done-still c h done (map waiting_one a.rest) a.holds.are_done ∙ waiting-all a.rest
    in messages-of c (waiting c past h)
    ∙ ap (map message_of) (waits-outcomes c (sendings c past h) ∙ still)
    ∙ waiting-messages a.rest
    ∙ append_cancel_left (map message_of done) a.rest (k.states h).rest (sym a.holds.accepted_is ∙ (k.hosts h).accepted_is)

pub accepted-count : (c : Parts) (past : List LogEntry) (h : ℕ) → (k : Known c past) → length (accepted_from past h) ≡ length (k.states h).done + length (k.states h).rest
accepted-count c past h k = ap length (k.hosts h).accepted_is ∙ length-append (map message_of (k.states h).done) (k.states h).rest ∙ ap (λ (n : ℕ). n + length (k.states h).rest) (length-map (k.states h).done message_of)
