-- What contracts see of a bench, and what making a line on it answers.
use Rattle.std.specs.Prelude.{◌≡◌, Bool, false, true, None, option_map, ℕ, ◌-◌, ◌<◌, ◌^◌, List, [], length, Option, Result, Ok, Err}
use Rattle.lin_core.specs.Core.{CoreData, IsAlike, past_of}
use Rattle.lin_bench.specs.Made.{BenchState, bench_with_verdict, made, made_within}
use Rattle.lin_bench.specs.Making.{IsGrown, RuledData, ends_at, extent_on, first_on}
use Rattle.lin_bench.specs.Rules.{no_rules}
use Rattle.lin_bench.specs.Searches.{IsSearchState, taken_by}
use Rattle.lin_bench.specs.Slots.{Course, slot_limit, ended_slot_count}
use Rattle.lin_bench.specs.Verdicts.{all_taken}
use Rattle.lin_bench.specs.declared.bench.Bench.TheInside.{Inside}
use Rattle.lin_bench.specs.declared.expected.Expected.{Expected}
use Rattle.lin_bench.specs.declared.faults.ArmedFault.{ArmedFault}
use Rattle.lin_bench.specs.declared.fault.MakeFault.{MakeFault}
use Rattle.lin_bench.specs.declared.fault.MakeFault.TheVariants.{LogFull, OutOfMemory}
use Rattle.lin_bench.specs.declared.got.Verdict.{Verdict}
use Rattle.lin_bench.specs.declared.bench.Early.{Early}
use Rattle.lin_bench.specs.declared.bench.Early.TheVariants.{Never, Until, While}
use Rattle.lin_bench.specs.declared.line.Disturbance.{Disturbance}
use Rattle.lin_bench.specs.declared.line.Extent.{Extent}
use Rattle.lin_bench.specs.declared.line.ScriptLine.{ScriptLine}
use Rattle.lin_bench.specs.declared.rules.Rules.{Rules}
use Rattle.lin_bench.specs.declared.taken.EventKind.{EventKind}

pub record BenchData : Type 0 where
  pub core : CoreData
  pub rules : Rules
  pub taken : List EventKind
  pub left : ℕ

abbrev pub bench_data : Inside → BenchData
bench_data a = record {
  core = a.ruled.core;
  rules = a.ruled.rules;
  taken = taken_by a.ruled.core.log a.taken;
  left = a.left;
}

abbrev pub AreKnown : Inside → Type 0
AreKnown a = IsSearchState a.ruled.core.log a.taken

-- a bench on which no line was made, under these faults
abbrev pub fresh_under : List ArmedFault → CoreData → BenchData
fresh_under faults core = record {
  core = core;
  rules = record no_rules { faults = faults };
  taken = [];
  left = slot_limit;
}

abbrev pub new_bench : CoreData → BenchData
new_bench core = fresh_under [] core

abbrev pub with_all_slots : BenchData → BenchData
with_all_slots b = record b { left = slot_limit }

-- a bench of which all events so far are taken
abbrev pub forgotten : BenchData → BenchData
forgotten b = record b { taken = all_taken (past_of b.core) }

-- the bench of the definitions
abbrev pub state_of : BenchData → BenchState
state_of b = record { past = past_of b.core; rules = b.rules; taken = b.taken; left = b.left }

abbrev pub ruled_of : BenchData → RuledData
ruled_of b = record { core = b.core; rules = b.rules }

-- a line on a bench
abbrev pub made_on : BenchData → ScriptLine → BenchState × Verdict
made_on b line = made b.core.cluster b.core.opening b.core.capacity (state_of b) line

-- how slots end early by what is expected after them
abbrev pub early_end : Early → Option Expected → Option (Bool × Expected)
early_end Never what = None
early_end Until what = option_map (λ e. (false, e)) what
early_end While what = option_map (λ e. (true, e)) what

-- slots on a bench, and what is expected after them
abbrev pub made_slots : BenchData → Disturbance → Extent → (Course → Bool) → Option Expected
    → BenchState × Verdict
made_slots b how extent ends what =
    made_within b.core.cluster b.core.opening b.core.capacity (state_of b)
    (ended_slot_count (extent_on (ruled_of b) how extent ends)) (extent_on (ruled_of b) how extent ends)
    (first_on (ruled_of b) how extent ends b.left) what

-- likewise, where they may end early by that
abbrev pub made_early : BenchData → Disturbance → Extent → Early → Option Expected
    → BenchState × Verdict
made_early b how extent early what =
    made_slots b how extent
    (ends_at b.core.cluster b.core.opening b.taken (length (past_of b.core)) (early_end early what))
    what

-- the log would have more entries than it takes
abbrev pub MakeFails : MakeFault → BenchState → Type 0
MakeFails LogFull b = 2 ^ 32 - 1 < length b.past
MakeFails OutOfMemory b = Unit {0}

-- the bench and the verdict are these; or there is no room or no memory for them
abbrev pub MakesBench : BenchState × Verdict → BenchData → Result Verdict MakeFault → BenchData → Type 0
MakesBench all old (Ok verdict) new = ((state_of new, verdict) ≡ all) × IsAlike old.core new.core
MakesBench all old (Err fault) new = MakeFails fault all.0 × IsGrown old.core new.core

abbrev pub MakesLine : BenchData → ScriptLine → Result Verdict MakeFault → BenchData → Type 0
MakesLine old line result new = MakesBench (made_on old line) old result new

-- what judging answers
abbrev pub GivesVerdict : BenchData → Option Expected → Result Verdict MakeFault → BenchData → Type 0
GivesVerdict old what (Ok verdict) new =
    ((state_of new, verdict) ≡ bench_with_verdict old.core.cluster old.core.opening (state_of old) what)
    × (new.core ≡ old.core)
GivesVerdict old what (Err LogFull) new = ⊥
GivesVerdict old what (Err OutOfMemory) new = new.core ≡ old.core
