-- The marks of a bench that a hand holds.
use Rattle.std.proofs.Common.{◌≡◌, ◌∙◌, ◌<◌, List, [], Result, ap, length, refl, reverse, subst, sym}
use Rattle.std.specs.Prelude.{IfOk}
use Rattle.std.proofs.lemmas.List.{reverse-reverse}
use Rattle.lin_core.specs.Core.{IsAlike}
use Rattle.lin_core.specs.declared.log.LogEntry.{LogEntry}
use Rattle.lin_bench.specs.Bench.{BenchData, state_of, with_all_slots}
use Rattle.lin_bench.specs.Made.{BenchState}
use Rattle.lin_bench.specs.Marks.{IsMarkOf, state_at}
use Rattle.lin_bench.specs.Slots.{slot_limit}
use Rattle.lin_bench.specs.declared.marks.Mark.{Mark}
use Rattle.lin_export.specs.declared.jsonl.Opening.{Opening}
use Rattle.lin_live.specs.Hand.{IsOpening}
use Rattle.lin_live.specs.Held.{held_data}
use Rattle.lin_live.specs.Told.{HandData}
use Rattle.lin_live.specs.declared.held.HeldBench.TheInside.{Inside}

-- a mark of the core's log
pub held-mark : {E : Type 0} (a : Inside) (h : HandData) (r : Result Mark E) → held_data a ≡ h → IfOk r (IsMarkOf a.bench.core.log)
    → IfOk r (λ m. state_at a.bench.core.log m ≡ state_of (with_all_slots a.bench))
    → IfOk r (IsMarkOf (reverse h.bench.past)) × IfOk r (λ m. state_at (reverse h.bench.past) m ≡ h.bench)
held-mark a h r is mark state =
    subst (λ (x : HandData). IfOk r (IsMarkOf (reverse x.bench.past)) × IfOk r (λ m. state_at (reverse x.bench.past) m ≡ x.bench)) is
    (subst (λ (l : List LogEntry). IfOk r (IsMarkOf l) × IfOk r (λ m. state_at l m ≡ state_of (with_all_slots a.bench))) (sym (reverse-reverse a.bench.core.log)) (mark, state))

pub held-of : (a : Inside) (h : HandData) (m : Mark) → held_data a ≡ h → IsMarkOf (reverse h.bench.past) m → IsMarkOf a.bench.core.log m
held-of a h m is k =
    subst (λ (l : List LogEntry). IsMarkOf l m) (ap (λ (x : HandData). reverse x.bench.past) (sym is) ∙ reverse-reverse a.bench.core.log) k

-- what the core was opened with
pub held-opening : (a : Inside) (h : HandData) (o : Opening) → held_data a ≡ h → IsOpening o h
    → (o.table ≡ a.bench.core.opening) × (o.capacity ≡ a.bench.core.capacity) × (o.table < length a.bench.core.cluster.tables)
held-opening a h o is k =
    let own : IsOpening o (held_data a) = subst (λ (x : HandData). IsOpening o x) (sym is) k in (own.table, own.capacity, own.tables)

-- a bench in hand with another bench
abbrev pub with_bench : Inside → BenchData → HandData
with_bench a b = record {
  format = a.format;
  cluster = b.core.cluster;
  opening = b.core.opening;
  capacity = b.core.capacity;
  coded = a.coded;
  limits = a.limits;
  is_physical = a.is_physical;
  sets = a.sets;
  bench = state_of (with_all_slots b);
  marks = [];
  begun = a.begun;
  was_bad = a.was_bad;
  was_unmet = a.was_unmet;
}

alike-data : (a : Inside) (b : BenchData) (s : BenchState) → IsAlike a.bench.core b.core → record (with_bench a b) { bench = s } ≡ record (held_data a) { bench = s }
alike-data a b s (c, o, k) = rw (c, o, k) refl

pub held-back : (a : Inside) (h : HandData) (b : BenchData) (m : Mark) → held_data a ≡ h → state_of b ≡ state_at a.bench.core.log m → IsAlike a.bench.core b.core
    → with_bench a b ≡ record h { bench = state_at (reverse h.bench.past) m }
held-back a h b m is state alike =
    subst (λ (x : HandData). with_bench a b ≡ record x { bench = state_at (reverse x.bench.past) m }) is
    (ap (λ (s : BenchState). record (with_bench a b) { bench = record s { left = slot_limit } }) state
    ∙ ap (λ (l : List LogEntry). record (with_bench a b) { bench = state_at l m }) (sym (reverse-reverse a.bench.core.log))
    ∙ alike-data a b (state_at (reverse (reverse a.bench.core.log)) m) alike)
