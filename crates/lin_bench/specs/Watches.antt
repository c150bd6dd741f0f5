-- What a line of slots keeps from one check of its log to the next.
use Rattle.std.specs.Prelude.{◌≡◌, ◌≤◌, ◌+◌, ◌-◌, ◌*◌, ℕ, not, List, [], ◌∷◌, Option, Some, None, IfSome}
use Rattle.std.specs.Prelude.{count_by, find, flat_map, length, nat_lt, reverse, take}
use Rattle.lin_parts.specs.declared.parts.Parts.{Parts}
use Rattle.lin_core.specs.History.{events, time}
use Rattle.lin_core.specs.declared.log.LogEntry.{LogEntry}
use Rattle.lin_bench.specs.Carried.{KeepsOpenSlot}
use Rattle.lin_bench.specs.Searches.{before}
use Rattle.lin_bench.specs.Verdicts.{begins_with, distances, is_near, is_of_kind, same_kind}
use Rattle.lin_bench.specs.declared.cycles.Begins.{Begins}
use Rattle.lin_bench.specs.declared.cycles.CycleState.{CycleState}
use Rattle.lin_bench.specs.declared.cycles.FrameCycle.{FrameCycle}
use Rattle.lin_bench.specs.declared.left_events.EventCount.{EventCount}
use Rattle.lin_bench.specs.declared.taken.EventKind.{EventKind}
use Rattle.lin_bench.specs.declared.taken.EventKind.TheVariants.{Ends}
use Rattle.lin_bench.specs.declared.watches.Watch.{Watch}

-- so many events of a kind are in the entries of a log from one to another; each entry has fewer than 2^64
pub record IsEventCount (es : List LogEntry) (c : EventCount) : Type 0 where
  pub order : c.first ≤ c.end
  pub within : c.end ≤ length es
  pub count :
      count_by (is_of_kind c.kind) (flat_map events (take c.first es)) + c.count
      ≡ count_by (is_of_kind c.kind) (flat_map events (take c.end es))
  pub few : c.count ≤ 18446744073709551616 * c.end

-- ---- the cycle of a frame
abbrev pub last_of : List ℕ → Option ℕ
last_of [] = None
last_of (t ∷ []) = Some t
last_of (t ∷ u ∷ ts) = last_of (u ∷ ts)

-- the first of these distances that isn't as expected
abbrev pub first_other : FrameCycle → List ℕ → Option ℕ
first_other c ds = find (λ d. not (is_near c.time_us c.within_us d)) ds

-- slots of a cycle began at these times
pub record AreBegins (c : FrameCycle) (ts : List ℕ) (b : Begins) : Type 0 where
  pub last : b.last ≡ last_of ts
  pub are_two : b.are_two ≡ nat_lt 1 (length ts)
  pub other : b.other ≡ first_other c (distances ts)

-- what is so after the first entries of a log, by the slots that no `forget` consumed
pub record IsCycleState (c : Parts) (es : List LogEntry) (s : CycleState) : Type 0 where
  pub from_in : s.from.entry ≤ length es
  pub within : s.entries ≤ length es
  pub skip : s.skip ≡ before es Ends s.from - count_by (is_of_kind Ends) (flat_map events (take s.entries es))
  pub clock : s.time ≡ time c (reverse (take s.entries es))
  pub few : s.time ≤ 1000000000 * s.entries
  pub slot : KeepsOpenSlot s.slot (reverse (take s.entries es))
  pub begins :
      (taken : List EventKind) → count_by (same_kind Ends) taken ≡ before es Ends s.from
      → AreBegins s.cycle (begins_with c s.cycle.frame taken (reverse (take s.entries es))) s.begins

-- what is kept is so in a log
pub record IsWatch (c : Parts) (es : List LogEntry) (w : Watch) : Type 0 where
  pub count : IfSome w.count (IsEventCount es)
  pub cycle : IfSome w.cycle (IsCycleState c es)
