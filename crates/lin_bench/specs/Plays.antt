-- What playing a bench script answers.
use Rattle.std.specs.Prelude.{◌≡◌, ◌<◌, ◌-◌, ◌^◌, ℕ, Bool, true, false, not, List, [], ◌∷◌, ◌++◌, count_by}
use Rattle.std.specs.Prelude.{length, reverse, Option, Some, None, Result, Ok, Err}
use Rattle.std.specs.List.{list_any}
use Rattle.lin_parts.specs.declared.parts.Parts.{Parts}
use Rattle.lin_core.specs.Core.{IsAlike}
use Rattle.lin_bench.specs.Bench.{BenchData, made_on, state_of}
use Rattle.lin_bench.specs.Made.{BenchState, made}
use Rattle.lin_core.specs.declared.log.LogEntry.{LogEntry}
use Rattle.lin_bench.specs.Played.{Run, bench_after, come_to_under, ends_from, ends_under}
use Rattle.lin_bench.specs.Played.{first_under, in_turn, judged_up_to, next, of_line, play_result, played_under}
use Rattle.lin_bench.specs.Strict.{silent_lines}
use Rattle.lin_bench.specs.declared.fault.PlayFault.{PlayFault}
use Rattle.lin_bench.specs.declared.fault.PlayFault.TheVariants.{SlotLimit, LogFull, OutOfMemory}
use Rattle.lin_bench.specs.declared.got.Judgement.{Judgement}
use Rattle.lin_bench.specs.declared.line.ScriptLine.{ScriptLine}
use Rattle.lin_bench.specs.declared.place.LinePlace.{LinePlace}
use Rattle.lin_bench.specs.declared.line.ScriptLine.TheVariants as line
use Rattle.lin_bench.specs.declared.faults.SlotFault.{SlotFault}
use Rattle.lin_bench.specs.declared.playing.LineEnd.{LineEnd}
use Rattle.lin_bench.specs.declared.playing.Played.{Played}
use Rattle.lin_bench.specs.declared.playing.PlayedUnder.{PlayedUnder}

-- the core's log is the history that the lines come to, and the judgements are theirs
pub record Comes (strict : Bool) (c : Parts) (opening : ℕ) (capacity : ℕ) (ls : List (LinePlace × ScriptLine))
    (it : Played) : Type 0 where
  pub run : Run
  pub lines : play_result strict c opening capacity ls ≡ Ok run
  pub log : it.core.log ≡ reverse run.bench.past
  pub judgements : it.judgements ≡ run.judgements
  pub cluster : it.core.cluster ≡ c
  pub opening_is : it.core.opening ≡ opening
  pub capacity_is : it.core.capacity ≡ capacity

-- a run, unless a line reaches the slot limit
abbrev pub run_or_limit : Run → Option LinePlace → Result Run LinePlace
run_or_limit run None = Ok run
run_or_limit run (Some n) = Err n

-- likewise under faults; the slot limit isn't an error
pub record ComesUnder (strict : Bool) (c : Parts) (opening : ℕ) (capacity : ℕ)
    (fs : List SlotFault) (ls : List (LinePlace × ScriptLine)) (it : PlayedUnder) : Type 0 where
  pub bench : BenchState
  pub is : bench ≡ bench_after c opening capacity (first_under fs) ls
  pub lines : played_under strict c opening capacity fs ls
      ≡ run_or_limit (record { bench = bench; judgements = it.judgements }) it.limit
  pub log : it.core.log ≡ reverse bench.past
  pub judgements : it.judgements
      ≡ judged_up_to strict (silent_lines strict ls) c opening capacity (first_under fs) ls
  pub ends : it.ends ≡ ends_under c opening capacity fs ls
  pub missed : it.missed ≡ count_by (λ f. not f.has_struck) bench.rules.faults
  pub cluster : it.core.cluster ≡ c
  pub opening_is : it.core.opening ≡ opening
  pub capacity_is : it.core.capacity ≡ capacity

-- a history would have more entries than a log takes
abbrev pub IsTooLong : List LogEntry → Type 0
IsTooLong past = 2 ^ 32 - 1 < length past

-- so would that of the lines up to one of them, under faults
pub record OverfillsUnder (c : Parts) (opening : ℕ) (capacity : ℕ) (fs : List SlotFault)
    (ls : List (LinePlace × ScriptLine)) : Type 0 where
  pub before : List (LinePlace × ScriptLine)
  pub line : LinePlace × ScriptLine
  pub behind : List (LinePlace × ScriptLine)
  pub all : ls ≡ before ++ line ∷ behind
  pub bench : BenchState
  pub so_far : come_to_under c opening capacity fs before ≡ Ok bench
  pub full : IsTooLong (made c opening capacity bench line.1).0.past

abbrev pub Overfills : Parts → ℕ → ℕ → List (LinePlace × ScriptLine) → Type 0
Overfills c opening capacity ls = OverfillsUnder c opening capacity [] ls

abbrev pub PlayFails : Bool → Parts → ℕ → ℕ → List (LinePlace × ScriptLine) → PlayFault → Type 0
PlayFails strict c opening capacity ls (SlotLimit n) = play_result strict c opening capacity ls ≡ Err n
PlayFails strict c opening capacity ls LogFull = Overfills c opening capacity ls
PlayFails strict c opening capacity ls OutOfMemory = Unit {0}

abbrev pub Plays : Bool → Parts → ℕ → ℕ → List (LinePlace × ScriptLine) → Result Played PlayFault → Type 0
Plays strict c opening capacity ls (Ok it) = Comes strict c opening capacity ls it
Plays strict c opening capacity ls (Err fault) = PlayFails strict c opening capacity ls fault

-- under faults the slot limit isn't an error
abbrev pub limit_of : {X : Type 0} → Result X PlayFault → Result (Option LinePlace) PlayFault
limit_of (Ok x) = Ok None
limit_of (Err (SlotLimit n)) = Ok (Some n)
limit_of (Err LogFull) = Err LogFull
limit_of (Err OutOfMemory) = Err OutOfMemory

-- what playing under faults answers
abbrev pub PlaysUnder : Bool → Parts → ℕ → ℕ → List SlotFault → List (LinePlace × ScriptLine)
    → Result PlayedUnder PlayFault → Type 0
PlaysUnder strict c opening capacity fs ls (Ok it) = ComesUnder strict c opening capacity fs ls it
PlaysUnder strict c opening capacity fs ls (Err (SlotLimit n)) = ⊥
PlaysUnder strict c opening capacity fs ls (Err LogFull) =
    OverfillsUnder c opening capacity fs ls
PlaysUnder strict c opening capacity fs ls (Err OutOfMemory) = Unit {0}

abbrev pub EndsWithFullLog : {X : Type 0} → Result X PlayFault → Type 0
EndsWithFullLog (Err LogFull) = Unit {0}
EndsWithFullLog result = ⊥

-- some line says a rule
abbrev pub is_rule : ScriptLine → Bool
is_rule (line.Rule rule) = true
is_rule line = false

abbrev pub has_rule : List (LinePlace × ScriptLine) → Bool
has_rule ls = list_any (λ (l : LinePlace × ScriptLine). is_rule l.1) ls

-- lines on a bench: the judgements on them, and their ends
abbrev pub judged_on : Bool → BenchData → List (LinePlace × ScriptLine) → List Judgement
judged_on strict b ls =
    judged_up_to strict (silent_lines strict ls) b.core.cluster b.core.opening b.core.capacity
    (state_of b) ls

abbrev pub ends_on : BenchData → List (LinePlace × ScriptLine) → List LineEnd
ends_on b ls = ends_from b.core.cluster b.core.opening b.core.capacity (state_of b) ls

-- the history of the lines up to one of them would have more entries than a log takes
pub record OverfillsOn (b : BenchData) (ls : List (LinePlace × ScriptLine)) : Type 0 where
  pub before : List (LinePlace × ScriptLine)
  pub line : LinePlace × ScriptLine
  pub behind : List (LinePlace × ScriptLine)
  pub all : ls ≡ before ++ line ∷ behind
  pub bench : BenchState
  pub so_far
      : in_turn b.core.cluster b.core.opening b.core.capacity (Ok (state_of b)) before ≡ Ok bench
  pub full
      : IsTooLong (made b.core.cluster b.core.opening b.core.capacity bench line.1).0.past

-- a line on a bench: what it came to
abbrev pub next_on : BenchData → LinePlace × ScriptLine → Result BenchState LinePlace
next_on b l = next b.core.cluster b.core.opening b.core.capacity (state_of b) l

-- what playing a line answers, of whose last step the next line may speak: it comes to that bench,
-- and the judgements on it are added; at the limit there are none
abbrev pub PlaysLine : Bool → BenchData → List Judgement → LinePlace × ScriptLine → Bool
    → Result Unit PlayFault → BenchData → List Judgement → Type 0
PlaysLine strict old js l is_told (Ok done) new more =
    (next_on old l ≡ Ok (state_of new))
    × (more ≡ js ++ of_line strict (state_of old) l (made_on old l.1) is_told)
    × IsAlike old.core new.core
PlaysLine strict old js l is_told (Err (SlotLimit m)) new more =
    (next_on old l ≡ Err m) × (state_of new ≡ (made_on old l.1).0) × (more ≡ js)
    × IsAlike old.core new.core
PlaysLine strict old js l is_told (Err LogFull) new more = IsTooLong (made_on old l.1).0.past
PlaysLine strict old js l is_told (Err OutOfMemory) new more = Unit {0}

-- what playing lines on a bench answers, to whose judgements and ends of lines those of the lines are
-- added
abbrev pub PlaysOn : Bool → BenchData → List Judgement → List LineEnd → List (LinePlace × ScriptLine)
    → Result Unit PlayFault → BenchData → List Judgement → List LineEnd → Type 0
PlaysOn strict old js es ls (Ok done) new more behind =
    (in_turn old.core.cluster old.core.opening old.core.capacity (Ok (state_of old)) ls
    ≡ Ok (state_of new))
    × (more ≡ js ++ judged_on strict old ls) × (behind ≡ es ++ ends_on old ls)
    × IsAlike old.core new.core
PlaysOn strict old js es ls (Err (SlotLimit n)) new more behind =
    (in_turn old.core.cluster old.core.opening old.core.capacity (Ok (state_of old)) ls ≡ Err n)
    × (state_of new
    ≡ bench_after old.core.cluster old.core.opening old.core.capacity (state_of old) ls)
    × (more ≡ js ++ judged_on strict old ls) × (behind ≡ es ++ ends_on old ls)
    × IsAlike old.core new.core
PlaysOn strict old js es ls (Err LogFull) new more behind = OverfillsOn old ls
PlaysOn strict old js es ls (Err OutOfMemory) new more behind = Unit {0}
