-- A message has the same fate on each link that it goes over.
use Rattle.std.proofs.Common.{◌≡◌, ℕ, Bool, true, false, List, [], ◌∷◌, ◌++◌, map, refl, ap, sym, ◌∙◌}
use Rattle.std.specs.Prelude.{cond, filter, is_some}
use Rattle.std.proofs.lemmas.List.{map-append}
use Rattle.std.proofs.lemmas.List.Elements.{filter-append}
use Rattle.lin_transport.specs.Law.{Addressed}
use Rattle.lin_transport.proofs.Frames.{count-some}
use Rattle.lin_parts.specs.Cluster.{nad}
use Rattle.lin_parts.specs.Sound.{IsSound}
use Rattle.lin_parts.specs.declared.parts.Parts.{Parts}
use Rattle.lin_core.specs.Law.{AgreesOn, fates_in}
use Rattle.lin_core.specs.Links.{Fate, Link, Message, Sending, Sign, accepted_from, link_address, blocks, fate_of, frames_to, goes_over, host_of, messages_on, sendings}
use Rattle.lin_core.specs.Links.Fate.{Waiting}
use Rattle.lin_core.specs.Runs.{history}
use Rattle.lin_core.specs.declared.log.LogEntry.{LogEntry}
use Rattle.lin_core.specs.declared.port.PortId.{PortId}
use Rattle.lin_core.specs.declared.step.Step.{Step}
use Rattle.lin_core.proofs.laws.Ends.{Held, frames-on, held-now}
use Rattle.lin_core.proofs.links.Fates.{goods-wait}
use Rattle.lin_core.proofs.links.Results.{Waits, frames_of_each, outcomes, tails_with, waiting_one}
use Rattle.lin_core.proofs.links.Tracks.{AreSettled}
use Rattle.lin_core.proofs.sendings.Hosts.{HasBlocks, HostState, IsLink, message_of, on, on_link, outcome, outcome_on}
use Rattle.lin_core.proofs.steps.Known.{Known}
use Rattle.lin_core.proofs.steps.Steps.{history-known}

-- the fates of the messages that go over a link
abbrev fates_over : Link → List (Message × Fate) → List Fate
fates_over l ps = map (λ (p : Message × Fate). p.1) (filter (λ (p : Message × Fate). on l p.0) ps)

abbrev fates_on : List (Addressed × Fate) → List Fate
fates_on ps = map (λ (p : Addressed × Fate). p.1) ps

abbrev fate_waiting : Message → Fate
fate_waiting m = Waiting

-- by the blocks of the settled messages
fates-settled : (ps : List (Addressed × Fate)) (front tails : List (List Sign)) (more : List (List (List ℕ))) → AreSettled ps front → fates_in (frames_of_each ps ++ more) (front ++ tails) ≡ fates_on ps ++ fates_in more tails
fates-settled [] [] tails more s = refl
fates-settled [] (b ∷ bs) tails more s = absurd s
fates-settled (p ∷ ps) [] tails more s = absurd s
fates-settled (p ∷ ps) (b ∷ bs) tails more s = rw s.0.fate (ap (λ (fs : List Fate). p.1 ∷ fs) (fates-settled ps bs tails more s.1))

-- and by those of the messages that wait
fates-fresh : (c : Parts) (ms : List Message) → fates_in (map (frames_to c) ms) [] ≡ map fate_waiting ms
fates-fresh c [] = refl
fates-fresh c (m ∷ ms) = rw (goods-wait (link_address c m.link) m.bytes 0 (count-some m.bytes)) (ap (λ (fs : List Fate). Waiting ∷ fs) (fates-fresh c ms))

fates-first : (c : Parts) (l : Link) (m : Message) (ms : List Message) (b : List Sign) (q : Bool) → Waits c b (m ∷ ms)
    → fates_in (map (frames_to c) (cond q (m ∷ filter (on l) ms) (filter (on l) ms))) (cond q (b ∷ []) []) ≡ map fate_waiting (cond q (m ∷ filter (on l) ms) (filter (on l) ms))
fates-first c l m ms b true w = rw w.waiting (ap (λ (fs : List Fate). Waiting ∷ fs) (fates-fresh c (filter (on l) ms)))
fates-first c l m ms b false w = fates-fresh c (filter (on l) ms)

fates-rest : (c : Parts) (l : Link) (rest : List Message) (b : List Sign) → Waits c b rest → fates_in (map (frames_to c) (filter (on l) rest)) (tails_with b rest l) ≡ map fate_waiting (filter (on l) rest)
fates-rest c l [] b w = refl
fates-rest c l (m ∷ ms) [] w = fates-fresh c (filter (on l) (m ∷ ms))
fates-rest c l (m ∷ ms) (s ∷ b) w = fates-first c l m ms (s ∷ b) (on l m) w

-- the same by the sendings
over-if : (c : Parts) (q : Bool) (x : Sending) (xs : List Sending) (ps : List (Message × Fate)) → map (fate_of c) xs ≡ map (λ (p : Message × Fate). p.1) ps
    → map (fate_of c) (cond q (x ∷ xs) xs) ≡ map (λ (p : Message × Fate). p.1) (cond q (outcome c x ∷ ps) ps)
over-if c true x xs ps e = ap (λ (fs : List Fate). fate_of c x ∷ fs) e
over-if c false x xs ps e = e

over-outcomes : (c : Parts) (l : Link) (xs : List Sending) → map (fate_of c) (filter (λ (s : Sending). goes_over s.message.link l) xs) ≡ fates_over l (map (outcome c) xs)
over-outcomes c l [] = refl
over-outcomes c l (x ∷ xs) =
    over-if c (goes_over x.message.link l) x (filter (λ (s : Sending). goes_over s.message.link l) xs) (filter (λ (p : Message × Fate). on l p.0) (map (outcome c) xs)) (over-outcomes c l xs)

done-if : (c : Parts) (q : Bool) (p : Message × Fate) (ps : List (Message × Fate)) → fates_on (map (outcome_on c) ps) ≡ map (λ (p : Message × Fate). p.1) ps
    → fates_on (map (outcome_on c) (cond q (p ∷ ps) ps)) ≡ map (λ (p : Message × Fate). p.1) (cond q (p ∷ ps) ps)
done-if c true p ps e = ap (λ (fs : List Fate). p.1 ∷ fs) e
done-if c false p ps e = e

done-fates : (c : Parts) (l : Link) (ps : List (Message × Fate)) → fates_on (on_link c l ps) ≡ fates_over l ps
done-fates c l [] = refl
done-fates c l (p ∷ ps) = done-if c (on l p.0) p (filter (λ (q : Message × Fate). on l q.0) ps) (done-fates c l ps)

waiting-if : (q : Bool) (m : Message) (ps : List (Message × Fate)) (ms : List Message) → map (λ (p : Message × Fate). p.1) ps ≡ map fate_waiting ms
    → map (λ (p : Message × Fate). p.1) (cond q (waiting_one m ∷ ps) ps) ≡ map fate_waiting (cond q (m ∷ ms) ms)
waiting-if true m ps ms e = ap (λ (fs : List Fate). Waiting ∷ fs) e
waiting-if false m ps ms e = e

waiting-fates : (l : Link) (ms : List Message) → fates_over l (map waiting_one ms) ≡ map fate_waiting (filter (on l) ms)
waiting-fates l [] = refl
waiting-fates l (m ∷ ms) = waiting-if (on l m) m (filter (λ (p : Message × Fate). on l p.0) (map waiting_one ms)) (filter (on l) ms) (waiting-fates l ms)

fates-append : (l : Link) (ps qs : List (Message × Fate)) → fates_over l (ps ++ qs) ≡ fates_over l ps ++ fates_over l qs
fates-append l ps qs =
    ap (map (λ (p : Message × Fate). p.1)) (filter-append (λ (p : Message × Fate). on l p.0) ps qs)
    ∙ map-append (λ (p : Message × Fate). p.1) (filter (λ (p : Message × Fate). on l p.0) ps) (filter (λ (p : Message × Fate). on l p.0) qs)

known-agrees : (c : Parts) (past : List LogEntry) (l : Link) → IsSound c → is_some (nad c l.node) ≡ true → Known c past → AgreesOn c past l
known-agrees c past l sound a k =
    let i : IsLink c (host_of l) l = record { host = refl; address = a }
    in let s : HostState = k.states (host_of l)
    in let hh : Held c past (host_of l) s.done = held-now c past (host_of l) sound k
    in let tails : List (List Sign) = tails_with hh.block hh.rest l
    in let hb : HasBlocks (on_link c l s.done) (blocks c past l) tails = hh.holds.links.at l i
    in let more : List (List (List ℕ)) = map (frames_to c) (filter (on l) hh.rest)
    in let each : map (frames_to c) (messages_on past l) ≡ frames_of_each (on_link c l s.done) ++ more
    = ap (λ (ms : List Message). map (frames_to c) (filter (on l) ms)) hh.holds.accepted_is
    ∙ ap (map (frames_to c)) (filter-append (on l) (map message_of s.done) hh.rest)
    ∙ map-append (frames_to c) (filter (on l) (map message_of s.done)) (filter (on l) hh.rest)
    ∙ ap (λ (fss : List (List (List ℕ))). fss ++ more) (frames-on c l s.done)
    in let told : map (fate_of c) (filter (λ (x : Sending). goes_over x.message.link l) (sendings c past (host_of l))) ≡ fates_over l s.done ++ map fate_waiting (filter (on l) hh.rest)
    = over-outcomes c l (sendings c past (host_of l))
    ∙ ap (fates_over l) (outcomes c (host_of l) (blocks c past) (accepted_from past (host_of l)) s.done hh.rest hh.block hh.holds)
    ∙ fates-append l s.done (map waiting_one hh.rest)
    ∙ ap (λ (fs : List Fate). fates_over l s.done ++ fs) (waiting-fates l hh.rest)
    in ap (λ (fss : List (List (List ℕ))). fates_in fss (blocks c past l)) each
    ∙ ap (fates_in (frames_of_each (on_link c l s.done) ++ more)) hb.is
    ∙ fates-settled (on_link c l s.done) hb.front tails more hb.settled
    ∙ ap (λ (fs : List Fate). fates_on (on_link c l s.done) ++ fs) (fates-rest c l hh.rest hh.block hh.holds.waits)
    ∙ ap (λ (fs : List Fate). fs ++ map fate_waiting (filter (on l) hh.rest)) (done-fates c l s.done)
    ∙ sym told

-- the law
pub links-agree : (c : Parts) (opening capacity : ℕ) (steps : List (PortId × Step)) → IsSound c → (l : Link) → is_some (nad c l.node) ≡ true → AgreesOn c (history c opening capacity steps) l
links-agree c opening capacity steps sound l a = known-agrees c (history c opening capacity steps) l sound a (history-known c opening capacity steps sound)
