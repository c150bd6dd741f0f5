-- What faults leave as it is.
use Rattle.std.specs.Prelude.{◌≡◌, ◌<◌, ◌⊎◌, ℕ, Bool, true, List, [], ◌∷◌, All, None}
use Rattle.lin_parts.specs.declared.parts.Parts.{Parts}
use Rattle.lin_core.specs.History.{open_slot}
use Rattle.lin_core.specs.Replies.{refusal}
use Rattle.lin_core.specs.Runs.{entry_of}
use Rattle.lin_core.specs.declared.log.LogEntry.{LogEntry}
use Rattle.lin_core.specs.declared.port.PortId.{PortId}
use Rattle.lin_core.specs.declared.step.Step.{Step}
use Rattle.lin_bench.specs.Faults.{changed_steps, is_changed, slots_finished}
use Rattle.lin_bench.specs.Made.{BenchState, made}
use Rattle.lin_bench.specs.Played.{play_result, played_under}
use Rattle.lin_bench.specs.declared.faults.ArmedFault.{ArmedFault}
use Rattle.lin_bench.specs.declared.line.ScriptLine.{ScriptLine}
use Rattle.lin_bench.specs.declared.place.LinePlace.{LinePlace}

-- under no fault it is a play
abbrev pub UnderNoneIsPlayed : Type 0
UnderNoneIsPlayed =
    (strict : Bool) (c : Parts) (opening capacity : ℕ) (ls : List (LinePlace × ScriptLine))
    → played_under strict c opening capacity [] ls ≡ play_result strict c opening capacity ls

-- none of these steps is refused, each on the history with those before it
abbrev pub AreDone : Parts → ℕ → ℕ → List LogEntry → List (PortId × Step) → Type 0
AreDone c opening capacity past [] = Unit {0}
AreDone c opening capacity past (s ∷ ss) =
    (refusal c capacity past s.0 s.1 ≡ None)
    × AreDone c opening capacity (entry_of c opening capacity past s ∷ past) ss

-- a fault's own step is never refused
abbrev pub NoFaultIsRefused : Type 0
NoFaultIsRefused =
    (c : Parts) (opening capacity : ℕ) (faults : List ArmedFault) (past : List LogEntry)
    (s : PortId × Step)
    → is_changed c capacity faults past s ≡ true → AreDone c opening capacity past (changed_steps s)

-- a bench under other faults
abbrev pub with_faults : List ArmedFault → BenchState → BenchState
with_faults faults b = record b { rules = record b.rules { faults = faults } }

-- in a history, the first slot of a fault wasn't opened
abbrev pub IsBefore : List LogEntry → ArmedFault → Type 0
IsBefore past f =
    (slots_finished past < f.fault.first)
    ⊎ ((slots_finished past ≡ f.fault.first) × (open_slot past ≡ None))

-- a line by which no fault's first slot is opened comes to what it comes to undisturbed
abbrev pub IsAlikeBefore : Type 0
IsAlikeBefore =
    (c : Parts) (opening capacity : ℕ) (b : BenchState) (line : ScriptLine) (faults : List ArmedFault)
    → All (IsBefore (made c opening capacity (with_faults [] b) line).0.past) faults
    → made c opening capacity (with_faults faults b) line
    ≡ (
      with_faults faults (made c opening capacity (with_faults [] b) line).0,
      (made c opening capacity (with_faults [] b) line).1,
    )
