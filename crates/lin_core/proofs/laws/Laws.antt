-- The laws, of each history and of each log that is one.
use Rattle.std.proofs.Common.{ℕ, List, [], ◌∷◌, subst, sym}
use Rattle.lin_parts.specs.Sound.{IsSound}
use Rattle.lin_parts.specs.declared.parts.Parts.{Parts}
use Rattle.lin_core.specs.Core.{CoreData, IsHistory, past_of}
use Rattle.lin_core.specs.Promises.{AllStay, CarriesFrames, StaysClosed, DeliversExactly, FatesAreFinal, LosesNothing, PutsInOrder}
use Rattle.lin_core.specs.Runs.{history, steps_of}
use Rattle.lin_core.specs.declared.log.LogEntry.{LogEntry}
use Rattle.lin_core.specs.declared.port.PortId.{PortId}
use Rattle.lin_core.specs.declared.step.Step.{Step}
use Rattle.lin_core.proofs.laws.Agreeing.{links-agree}
use Rattle.lin_core.proofs.laws.Calm.{none-lost, reads-all}
use Rattle.lin_core.proofs.laws.Defined.{dues-told, slots-defined}
use Rattle.lin_core.proofs.laws.Ends.{blocks-order, reads-sent}
use Rattle.lin_core.proofs.laws.Fixed.{fates-stay, no-send}
use Rattle.lin_core.proofs.laws.Readings.{tells-reading}
use Rattle.lin_core.proofs.laws.Reports.{reports-fates}

pub history-delivers : (c : Parts) (opening capacity : ℕ) (steps : List (PortId × Step)) → IsSound c → DeliversExactly c (history c opening capacity steps)
history-delivers c opening capacity steps sound = λ l a. (reads-sent c opening capacity steps sound l a, tells-reading c opening capacity steps sound l a)

pub history-in-order : (c : Parts) (opening capacity : ℕ) (steps : List (PortId × Step)) → IsSound c → PutsInOrder c (history c opening capacity steps)
history-in-order c opening capacity steps sound = λ l a. blocks-order c opening capacity steps sound l a

all-stay : (c : Parts) (opening capacity : ℕ) (steps : List (PortId × Step)) (h : ℕ) → IsSound c → AllStay c (history c opening capacity steps) h
all-stay c opening capacity [] h sound = tt
all-stay c opening capacity (s ∷ earlier) h sound = (fates-stay c opening capacity s earlier sound h, all-stay c opening capacity earlier h sound)

pub history-final : (c : Parts) (opening capacity : ℕ) (steps : List (PortId × Step)) → IsSound c → FatesAreFinal c (history c opening capacity steps)
history-final c opening capacity steps sound = ((λ h. (all-stay c opening capacity steps h sound, reports-fates c opening capacity steps sound h)), λ l a. links-agree c opening capacity steps sound l a)

pub history-carries : (c : Parts) (opening capacity : ℕ) (steps : List (PortId × Step)) → CarriesFrames c opening (history c opening capacity steps)
history-carries c opening capacity [] = tt
history-carries c opening capacity (s ∷ earlier) = (slots-defined c opening capacity s earlier, dues-told c opening capacity s earlier, history-carries c opening capacity earlier)

pub history-closed : (c : Parts) (opening capacity : ℕ) (steps : List (PortId × Step)) → StaysClosed (history c opening capacity steps)
history-closed c opening capacity [] = tt
history-closed c opening capacity (s ∷ earlier) = ((λ h. no-send c opening capacity s earlier h), history-closed c opening capacity earlier)

pub history-loses-nothing : (c : Parts) (opening capacity : ℕ) (steps : List (PortId × Step)) → IsSound c → LosesNothing c (history c opening capacity steps)
history-loses-nothing c opening capacity steps sound = λ q. ((λ h. none-lost c opening capacity steps sound h q), (λ l a. reads-all c opening capacity steps sound l a q))

-- the same of the log of a core
of-log : (P : List LogEntry → Type 0) (core : CoreData) → IsHistory core → P (history core.cluster core.opening core.capacity (steps_of (past_of core))) → P (past_of core)
of-log P core h p = subst P (sym h) p

pub log-delivers : (core : CoreData) → IsSound core.cluster → IsHistory core → DeliversExactly core.cluster (past_of core)
log-delivers core sound h = of-log (DeliversExactly core.cluster) core h (history-delivers core.cluster core.opening core.capacity (steps_of (past_of core)) sound)

pub log-in-order : (core : CoreData) → IsSound core.cluster → IsHistory core → PutsInOrder core.cluster (past_of core)
log-in-order core sound h = of-log (PutsInOrder core.cluster) core h (history-in-order core.cluster core.opening core.capacity (steps_of (past_of core)) sound)

pub log-final : (core : CoreData) → IsSound core.cluster → IsHistory core → FatesAreFinal core.cluster (past_of core)
log-final core sound h = of-log (FatesAreFinal core.cluster) core h (history-final core.cluster core.opening core.capacity (steps_of (past_of core)) sound)

pub log-carries : (core : CoreData) → IsHistory core → CarriesFrames core.cluster core.opening (past_of core)
log-carries core h = of-log (CarriesFrames core.cluster core.opening) core h (history-carries core.cluster core.opening core.capacity (steps_of (past_of core)))

pub log-closed : (core : CoreData) → IsHistory core → StaysClosed (past_of core)
log-closed core h = of-log StaysClosed core h (history-closed core.cluster core.opening core.capacity (steps_of (past_of core)))

pub log-loses-nothing : (core : CoreData) → IsSound core.cluster → IsHistory core → LosesNothing core.cluster (past_of core)
log-loses-nothing core sound h = of-log (LosesNothing core.cluster) core h (history-loses-nothing core.cluster core.opening core.capacity (steps_of (past_of core)) sound)
