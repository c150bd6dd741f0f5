-- What the steps of a run add to the log.
use Rattle.std.proofs.Common.{◌≡◌, ◌+◌, ℕ, List, [], ◌∷◌, ◌++◌, length, drop, flat_map, refl, sym, ap, subst, ◌∙◌, append_assoc, append-nil, length-append, Some, Result, Ok, Err, OnOk, ◌≤◌, ◌<◌, Bool, true, false, arith}
use Rattle.std.proofs.lemmas.List.Elements.{filter_map-append}
use Rattle.std.proofs.lemmas.Grind.{flat_map-append}
use Rattle.std.proofs.Math.Numerals.{add-one}
use Rattle.std.proofs.Math.Seq.{drop-append_seam, drop-length}
use Rattle.std.specs.List.{AllZip, slice_get}
use Rattle.lin_frame.specs.Words.{numbers}
use Rattle.lin_parts.specs.Cluster.{nodes}
use Rattle.lin_core.specs.Core.{CoreData}
use Rattle.lin_core.specs.declared.log.LogEntry.{LogEntry}
use Rattle.lin_core.specs.declared.port.PortId.{PortId}
use Rattle.lin_core.specs.declared.port.PortId.TheVariants.{Bus}
use Rattle.lin_core.specs.declared.step.Step.{Step}
use Rattle.lin_threads.specs.Pumps.{core_of, KeepsPump}
use Rattle.lin_threads.specs.Ports.{receipt_wiring}
use Rattle.lin_threads.specs.Rounds.{Rising, RoundAdds, longer_by}
use Rattle.lin_threads.specs.Settled.{SameReceipt, StaysSettled}
use Rattle.lin_threads.specs.Steps.{logged, port_at, same_port, step_by}
use Rattle.lin_threads.specs.declared.ports.Receipt.{Receipt}
use Rattle.lin_threads.specs.declared.ports.pump.Pump.{Pump}
use Rattle.lin_threads.proofs.PortLemmas.{port_at-apart, port_at-no_bus, same_port-false, same_port-true}
use Rattle.lin_threads.proofs.RoundLemmas.{pump_refl, pump_trans}
use Rattle.lin_threads.proofs.SettleLemmas.{stays_trans}
use Rattle.lin_threads.specs.Runs.{Advances, IsSettledAs, IsWiredReceipt, MakesAtMost, bus_steps, slot_steps}
use Rattle.lin_threads.proofs.StateLemmas.{zip_weaker}

pub advances_none : (a b : Pump) → KeepsPump a b → StaysSettled a b → core_of b ≡ core_of a → Advances a b []
advances_none a b pump stays same = record {
  pump = pump;
  stays = stays;
  added = [];
  log = ap (λ (core : CoreData). core.log) same ∙ sym (append-nil (core_of a).log);
  bus = refl;
}

pub advances_refl : (a : Pump) → Advances a a []
advances_refl a = advances_none a a (pump_refl a) (λ r s. (s, refl)) refl

pub advances_trans : (a b c : Pump) (xs ys : List Step) → Advances a b xs → Advances b c ys → Advances a c (xs ++ ys)
advances_trans a b c xs ys h k = record {
  pump = pump_trans a b c h.pump k.pump;
  stays = stays_trans a b c h.stays k.stays;
  added = h.added ++ k.added;
  log = k.log ∙ ap (λ l. l ++ k.added) h.log ∙ append_assoc (core_of a).log h.added k.added;
  bus = filter_map-append (step_by Bus) h.added k.added ∙ rw (h.bus, k.bus) refl;
}

rising_quiet : (es : List LogEntry) (core : CoreData) (from to : ℕ) → Rising core from to es → logged es Bus ≡ []
rising_quiet [] core from to h = refl
rising_quiet (e ∷ es) core from to h =
    let by : e.port ≡ port_at (nodes core.cluster) h.0 = ap (λ (x : LogEntry). x.port) h.2 in
    rw (same_port-false e.port Bus (λ same. port_at-no_bus (nodes core.cluster) h.0 (sym by ∙ same))) (rising_quiet es (longer_by core e) (h.0 + 1) to h.4)

rising_none : (es : List LogEntry) (core : CoreData) (from to k : ℕ) → k < from → Rising core from to es → logged es (port_at (nodes core.cluster) k) ≡ []
rising_none [] core from to k below h = refl
rising_none (e ∷ es) core from to k below h =
    let by : e.port ≡ port_at (nodes core.cluster) h.0 = ap (λ (x : LogEntry). x.port) h.2 in
    rw (same_port-false e.port (port_at (nodes core.cluster) k) (λ same. let q = port_at-apart (nodes core.cluster) h.0 k (sym by ∙ same) in absurd (omega (arith, h.1))))
    (rising_none es (longer_by core e) (h.0 + 1) to k (omega (arith, h.1)) h.4)

one_or_more : (e : LogEntry) (es : List LogEntry) (core : CoreData) (from to : ℕ) (port : PortId) (own : Bool) → same_port e.port port ≡ own → Rising core from to (e ∷ es)
    → length (logged es port) ≤ 1 → length (logged (e ∷ es) port) ≤ 1
one_or_more e es core from to port true own h later =
    let by : e.port ≡ port_at (nodes core.cluster) h.0 = ap (λ (x : LogEntry). x.port) h.2 in
    let none : logged es port ≡ [] = rw (sym (same_port-true e.port port own) ∙ by) (rising_none es (longer_by core e) (h.0 + 1) to h.0 (omega arith) h.4) in
    rw (own, none) (omega arith)
one_or_more e es core from to port false own h later = rw own later

-- a round takes at most one step of each port
rising_once : (es : List LogEntry) (core : CoreData) (from to : ℕ) (port : PortId) → Rising core from to es → length (logged es port) ≤ 1
rising_once [] core from to port h = omega arith
rising_once (e ∷ es) core from to port h =
    one_or_more e es core from to port (same_port e.port port) refl h (rising_once es (longer_by core e) (h.0 + 1) to port h.4)

pub at_most_none : (a : Pump) → MakesAtMost 0 a a
at_most_none a port = rw (drop-length (core_of a).log) (omega arith)

-- one more round
pub at_most_more : (n : ℕ) (a b c : Pump) (k : ℕ) → KeepsPump a b → RoundAdds (core_of b) (core_of c) k → MakesAtMost n a b → MakesAtMost (n + 1) a c
at_most_more n a b c k kept adds most port =
    let rest = kept.log.0 in
    let before : length (logged rest port) ≤ n = rw (← (kept.log.1), drop-append_seam (core_of a).log rest) at (most port) in
    let once = rising_once adds.0 (core_of b) 0 (nodes (core_of b).cluster + nodes (core_of b).cluster) port adds.3 in
    rw (adds.1, ← (kept.log.1), append_assoc (core_of a).log rest adds.0, drop-append_seam (core_of a).log (rest ++ adds.0), filter_map-append (step_by port) rest adds.0)
    (let sum = length-append (logged rest port) (logged adds.0 port) in omega arith)

pub at_most_less : (n m : ℕ) (a b : Pump) → n ≤ m → MakesAtMost n a b → MakesAtMost m a b
at_most_less n m a b le most port = (let few = most port in omega arith)

-- the bus makes no step in one more round
pub advances_round : (a b c : Pump) (n : ℕ) → Advances a b [] → KeepsPump b c → StaysSettled b c → RoundAdds (core_of b) (core_of c) n → Advances a c []
advances_round a b c n h pump stays adds =
    advances_trans a b c [] [] h (record {
      pump = pump;
      stays = stays;
      added = adds.0;
      log = adds.1;
      bus = rising_quiet adds.0 (core_of b) 0 (nodes (core_of b).cluster + nodes (core_of b).cluster) adds.3;
    })

-- a call that leaves the core as it was
pub advances_same : (a b c : Pump) → Advances a b [] → KeepsPump b c → StaysSettled b c → core_of c ≡ core_of b → Advances a c []
advances_same a b c h pump stays same = advances_trans a b c [] [] h (advances_none b c pump stays same)

-- what is added where a call succeeds
pub advances_ok : {E : Type 0} (a b c : Pump) (xs ys : List Step) (r : Result Unit E) → Advances a b xs → OnOk r (Advances b c ys) → OnOk r (Advances a c (xs ++ ys))
advances_ok a b c xs ys (Ok u) h k = advances_trans a b c xs ys h k
advances_ok a b c xs ys (Err e) h k = k

-- the same where the last call adds no step of the bus
pub advances_quiet : (a b c : Pump) (xs : List Step) → Advances a b xs → Advances b c [] → Advances a c xs
advances_quiet a b c xs h k = subst (λ (ys : List Step). Advances a c ys) (append-nil xs) (advances_trans a b c xs [] h k)

pub advances_quiet_ok : {E : Type 0} (a b c : Pump) (xs : List Step) (r : Result Unit E) → Advances a b xs → OnOk r (Advances b c []) → OnOk r (Advances a c xs)
advances_quiet_ok a b c xs (Ok u) h k = advances_quiet a b c xs h k
advances_quiet_ok a b c xs (Err e) h k = k

-- the steps of one more slot
pub one_more_slot : (hurt : List ℕ) (n : ℕ) → bus_steps hurt n ++ slot_steps hurt n ≡ bus_steps hurt (n + 1)
unfolding bus_steps
one_more_slot hurt n =
    rw add-one (sym (flat_map-append (slot_steps hurt) (numbers n) (n ∷ []) ∙ ap (λ xs. flat_map (slot_steps hurt) (numbers n) ++ xs) (append-nil (slot_steps hurt n))))

pub no_slot : (hurt : List ℕ) → bus_steps hurt 0 ≡ []
unfolding bus_steps
no_slot hurt = refl

-- what the bus added is what stands after the log that was there
pub added_by_bus : (a b : Pump) (steps : List Step) → Advances a b steps → logged (drop (length (core_of a).log) (core_of b).log) Bus ≡ steps
added_by_bus a b steps h = rw (h.log, drop-append_seam (core_of a).log h.added) h.bus

-- the receipt of a port of this pump stays so
pub wired_kept : (a b : Pump) (r s : Receipt) → KeepsPump a b → receipt_wiring s ≡ receipt_wiring r → IsWiredReceipt a r → IsWiredReceipt b s
wired_kept a b r s k same h = (h.0, ap (λ ws. slice_get ws h.0) k.ports ∙ h.1 ∙ ap Some (sym same))

pub same_receipt : (r s t : Receipt) → SameReceipt r s → SameReceipt s t → SameReceipt r t
same_receipt r s t h k = record { wiring = k.wiring ∙ h.wiring; put = k.put ∙ h.put; took = k.took ∙ h.took }

-- receipts that are settled stay so
pub all_stay : (a b : Pump) (rs ss : List Receipt) → StaysSettled a b → AllZip (IsSettledAs a) rs ss → AllZip (IsSettledAs b) rs ss
all_stay a b rs ss stays h = zip_weaker (IsSettledAs a) (IsSettledAs b) rs ss (λ r s k. record { same = k.same; settled = (stays s k.settled).0 }) h
