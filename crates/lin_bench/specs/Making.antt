-- What making steps on a core answers.
use Rattle.std.specs.Prelude.{◌≡◌, Bool, ℕ, ◌<◌, ◌+◌, ◌-◌, ◌^◌, ◌≤◌, List, ◌++◌, false, length, true, Option}
use Rattle.std.specs.Prelude.{Some, None, Result, Ok, Err, option_map}
use Rattle.lin_parts.specs.declared.parts.Parts.{Parts}
use Rattle.lin_core.specs.Core.{CoreData, IsAlike, past_of}
use Rattle.lin_core.specs.declared.log.LogEntry.{LogEntry}
use Rattle.lin_core.specs.declared.port.PortId.{PortId}
use Rattle.lin_core.specs.declared.step.Step.{Step}
use Rattle.lin_bench.specs.Faults.{is_changed, struck}
use Rattle.lin_bench.specs.Made.{comes, fails, never_ends}
use Rattle.lin_bench.specs.Searches.{taken_by}
use Rattle.lin_bench.specs.Slots.{Course, course_after, after_made, extent_steps, most, ended_slot_count}
use Rattle.lin_bench.specs.declared.expected.Expected.{Expected}
use Rattle.lin_bench.specs.declared.slot_runs.Ending.{Ending}
use Rattle.lin_bench.specs.declared.taken.EventKind.{EventKind}
use Rattle.lin_bench.specs.declared.taken.TakenEvents.{TakenEvents}
use Rattle.lin_bench.specs.declared.rules.Rules.{Rules}
use Rattle.lin_bench.specs.declared.line.Disturbance.{Disturbance}
use Rattle.lin_bench.specs.declared.line.Extent.{Extent}
use Rattle.lin_bench.specs.declared.fault.MakeFault.{MakeFault}
use Rattle.lin_bench.specs.declared.fault.MakeFault.TheVariants.{LogFull, OutOfMemory}

-- a core, and the rules in force
pub record RuledData : Type 0 where
  pub core : CoreData
  pub rules : Rules

abbrev pub course_on : RuledData → Course
course_on a = record { past = past_of a.core; rules = a.rules }

-- what steps come to on a core
abbrev pub after_on : RuledData → List (PortId × Step) → Course
after_on a steps = course_after a.core.cluster a.core.opening a.core.capacity (course_on a) steps

-- the steps were made, in order, with those that the rules add, and nothing else
pub record AreExecuted (old : RuledData) (steps : List (PortId × Step)) (new : RuledData) : Type 0 where
  pub course : course_on new ≡ after_on old steps
  pub alike : IsAlike old.core new.core

-- the log stands as it was, with more entries behind
pub record IsGrown (old new : CoreData) : Type 0 where
  pub more : List LogEntry
  pub log : new.log ≡ old.log ++ more

-- the log would have more entries than it takes
abbrev pub NoRoom : RuledData → List (PortId × Step) → Type 0
NoRoom a steps = 2 ^ 32 - 1 < length (after_on a steps).past

-- why steps aren't made
abbrev pub StepsFail : MakeFault → RuledData → List (PortId × Step) → Type 0
StepsFail LogFull a steps = NoRoom a steps
StepsFail OutOfMemory a steps = Unit {0}

-- what making steps answers
abbrev pub MakesSteps : {X : Type 0} → RuledData → List (PortId × Step) → Result X MakeFault
    → RuledData
    → Type 0
MakesSteps old steps (Ok x) new = AreExecuted old steps new
MakesSteps old steps (Err fault) new = StepsFail fault old steps × IsGrown old.core new.core

-- whether a fault changes a step that a line says, and the rules with the faults after it
abbrev pub is_changed_on : RuledData → PortId × Step → Bool
is_changed_on a s = is_changed a.core.cluster a.core.capacity a.rules.faults (past_of a.core) s

abbrev pub struck_on : RuledData → PortId × Step → Rules
struck_on a s = record a.rules {
  faults = struck a.core.cluster a.core.capacity a.rules.faults (past_of a.core) s;
}

-- likewise of steps that no fault changes
abbrev pub made_on : RuledData → List (PortId × Step) → Course
made_on a steps = after_made a.core.cluster a.core.opening a.core.capacity (course_on a) steps

pub record IsMadeSo (old : RuledData) (steps : List (PortId × Step)) (new : RuledData) : Type 0 where
  pub course : course_on new ≡ made_on old steps
  pub alike : IsAlike old.core new.core

abbrev pub UnchangedFail : MakeFault → RuledData → List (PortId × Step) → Type 0
UnchangedFail LogFull a steps = 2 ^ 32 - 1 < length (made_on a steps).past
UnchangedFail OutOfMemory a steps = Unit {0}

abbrev pub MakesUnchanged : {X : Type 0} → RuledData → List (PortId × Step) → Result X MakeFault
    → RuledData
    → Type 0
MakesUnchanged old steps (Ok x) new = IsMadeSo old steps new
MakesUnchanged old steps (Err fault) new =
    UnchangedFail fault old steps × IsGrown old.core new.core

-- how slots end early, with what is taken and so many entries at the line's beginning: where what is
-- expected comes; or, where it is to hold, where it fails
abbrev pub ends_at : Parts → ℕ → List EventKind → ℕ → Option (Bool × Expected) → Course → Bool
ends_at c opening taken began None = never_ends
ends_at c opening taken began (Some (false, what)) = comes c opening taken what
ends_at c opening taken began (Some (true, what)) = fails c opening taken began what

-- what ends slots early, as code has it
abbrev pub ending_of : Ending → Bool × Expected
ending_of e = (e.is_while, e.expected.now)

-- the steps of at most n slots of a line on a core, without those that the rules add
abbrev pub first_on : RuledData → Disturbance → Extent → (Course → Bool) → ℕ
    → List (PortId × Step)
first_on a how extent ends n =
    extent_steps a.core.cluster a.core.opening a.core.capacity how extent ends n (course_on a)

-- the steps of a line of slots on a core
abbrev pub extent_on : RuledData → Disturbance → Extent → (Course → Bool) → List (PortId × Step)
extent_on a how extent ends = first_on a how extent ends (most extent)

-- why slots aren't made: there is no room for those of the line, or for those that are left
abbrev pub SlotsFail : MakeFault → RuledData → Disturbance → Extent → (Course → Bool) → ℕ → Type 0
SlotsFail LogFull a how extent ends left =
    (ended_slot_count (extent_on a how extent ends) ≤ left → NoRoom a (extent_on a how extent ends))
    × (left < ended_slot_count (extent_on a how extent ends) → NoRoom a (first_on a how extent ends left))
SlotsFail OutOfMemory a how extent ends left = Unit {0}

-- whether what ends a line early is so in a course, with the events that are taken and the number of
-- entries at the line's beginning
abbrev pub line_ends : RuledData → TakenEvents → ℕ → Option Ending → Course → Bool
line_ends old taken began ending =
    ends_at old.core.cluster old.core.opening (taken_by old.core.log taken) began
    (option_map ending_of ending)

-- the slots of a line were made, and so many are left; or they are more than were left, and those
-- were made
abbrev pub MakesSlots : RuledData → Disturbance → Extent → (Course → Bool) → ℕ
    → Result (Option ℕ) MakeFault → RuledData
    → Type 0
MakesSlots old how extent ends left (Ok (Some rest)) new =
    AreExecuted old (extent_on old how extent ends) new
    × (ended_slot_count (extent_on old how extent ends) + rest ≡ left)
MakesSlots old how extent ends left (Ok None) new =
    AreExecuted old (first_on old how extent ends left) new
    × (left < ended_slot_count (extent_on old how extent ends))
MakesSlots old how extent ends left (Err fault) new =
    SlotsFail fault old how extent ends left × IsGrown old.core new.core
