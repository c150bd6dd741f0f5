-- What a round adds, port by port.
use Rattle.std.proofs.Common.{◌≡◌, ◌≤◌, ◌+◌, ℕ, List, [], ◌∷◌, ◌++◌, append_assoc, append-nil, length-append, refl, sym, ap, subst, ◌∙◌, arith, true, Bool, Result, Ok, Err, false, vec_len}
use mathlib.Core.List.{IsPrefix}
use Rattle.lin_parts.specs.Cluster.{nodes}
use Rattle.lin_core.specs.Core.{CoreData, entry_with_reply, IsAlike}
use Rattle.lin_core.specs.Replies.{may}
use Rattle.lin_core.specs.declared.log.LogEntry.{LogEntry}
use Rattle.lin_core.specs.declared.port.PortId.{PortId}
use Rattle.lin_threads.specs.declared.ports.pump.Pump.{Pump}
use Rattle.lin_threads.specs.Steps.{port_at}
use Rattle.lin_threads.specs.Lanes.{AddsEntry, Served}
use Rattle.lin_threads.specs.Pumps.{KeepsPump}
use Rattle.lin_threads.specs.Rounds.{longer_by, Rising, AddsUpTo}

-- the core with these entries more
abbrev with_entries : CoreData → List LogEntry → CoreData
with_entries core es = record core { log = core.log ++ es }

rising_end : (es : List LogEntry) (core : CoreData) (from to i : ℕ) (e : LogEntry) → Rising core from to es → to ≤ i
    → e ≡ entry_with_reply (with_entries core es) (port_at (nodes core.cluster) i) e.step → may e.port e.step ≡ true → Rising core from (i + 1) (es ++ e ∷ [])
rising_end [] core from to i e h le is own =
    (i, omega (arith, h, le), subst (λ (log : List LogEntry). e ≡ entry_with_reply (record core { log = log }) (port_at (nodes core.cluster) i) e.step) (append-nil core.log) is, own, omega arith)
rising_end (x ∷ es) core from to i e h le is own =
    let is' = subst (λ (log : List LogEntry). e ≡ entry_with_reply (record core { log = log }) (port_at (nodes core.cluster) i) e.step) (sym (append_assoc core.log (x ∷ []) es)) is in
    (h.0, h.1, h.2, h.3, rising_end es (longer_by core x) (h.0 + 1) to i e h.4 le is' own)

rising_up : (es : List LogEntry) (core : CoreData) (from to more : ℕ) → to ≤ more → Rising core from to es → Rising core from more es
rising_up [] core from to more le h = omega (arith, h, le)
rising_up (x ∷ es) core from to more le h = (h.0, h.1, h.2, h.3, rising_up es (longer_by core x) (h.0 + 1) to more le h.4)

pub round_none : (core : CoreData) → AddsUpTo 0 core core 0
round_none core = ([], sym (append-nil core.log), refl, omega arith)

pub round_up : (i j n : ℕ) (old new new' : CoreData) → i ≤ j → new'.log ≡ new.log → AddsUpTo i old new n → AddsUpTo j old new' n
round_up i j n old new new' le same h = (h.0, same ∙ h.1, h.2, rising_up h.0 old 0 i j le h.3)

pub round_add : (i n : ℕ) (old mid new : CoreData) → IsAlike old mid → AddsUpTo i old mid n → AddsEntry (port_at (nodes mid.cluster) i) mid new → AddsUpTo (i + 1) old new (n + 1)
round_add i n old mid new alike h k =
    let e : LogEntry = entry_with_reply mid (port_at (nodes mid.cluster) i) k.step in
    let is : e ≡ entry_with_reply (with_entries old h.0) (port_at (nodes old.cluster) i) k.step = rw (alike.0, alike.1, alike.2, h.1) refl in (
      h.0 ++ e ∷ [],
      k.log ∙ ap (λ l. l ++ e ∷ []) h.1 ∙ append_assoc old.log h.0 (e ∷ []),
      (let c = h.2 in omega (arith, length-append h.0 (e ∷ []))),
      rising_end h.0 old 0 i i e h.3 (omega arith) is k.own,
    )

pub prefix_same : {X : Type 0} (xs ys : List X) → ys ≡ xs → IsPrefix xs ys
prefix_same xs ys e = ([], append-nil xs ∙ sym e)

pub prefix_trans : {X : Type 0} (xs ys zs : List X) → IsPrefix xs ys → IsPrefix ys zs → IsPrefix xs zs
prefix_trans xs ys zs h k = (h.0 ++ k.0, sym (append_assoc xs h.0 k.0) ∙ ap (λ l. l ++ k.0) h.1 ∙ k.1)

-- the log has one entry more, or none
pub served_prefix : {E : Type 0} (port : PortId) (old new : CoreData) (r : Result Bool E) → Served port old new r → IsPrefix old.log new.log
served_prefix port old new (Ok true) h = (entry_with_reply old port h.step ∷ [], sym h.log)
served_prefix port old new (Ok false) h = prefix_same old.log new.log h
served_prefix port old new (Err e) h = prefix_same old.log new.log h

pub pump_refl : (p : Pump) → KeepsPump p p
pump_refl p = record { ports = refl; alike = (refl, refl, refl); start = refl; log = prefix_same p.core.log p.core.log refl }

pub pump_trans : (a b c : Pump) → KeepsPump a b → KeepsPump b c → KeepsPump a c
pump_trans a b c h k = record {
  ports = k.ports ∙ h.ports;
  alike = (k.alike.0 ∙ h.alike.0, k.alike.1 ∙ h.alike.1, k.alike.2 ∙ h.alike.2);
  start = k.start ∙ h.start;
  log = prefix_trans a.core.log b.core.log c.core.log h.log k.log;
}

-- the same pump has as many lanes
pub same_count : (a b : Pump) → KeepsPump a b → vec_len b.lanes ≡ vec_len a.lanes
same_count a b h = b.count ∙ ap (λ c. nodes c + nodes c) h.alike.0 ∙ sym a.count
