-- One line, made on the session behind a handle.
use Rattle.std.specs.Prelude.{◌≡◌, ◌⊎◌, ◌<◌, ◌≤◌, ◌-◌, ◌^◌, ℕ, List, [], ◌∷◌, ◌++◌, length, drop, Option, Some}
use Rattle.std.specs.Prelude.{None, Result, Ok, Err, IsErr, Bool, true, false, if◌then◌else◌}
use Rattle.std.specs.Str.Lines.{strip_carriage_return}
use Rattle.lin_core.specs.Core.{CoreData, IsAlike, entry_with_reply}
use Rattle.lin_core.specs.declared.log.LogEntry.{LogEntry}
use Rattle.lin_core.specs.declared.port.PortId.{PortId}
use Rattle.lin_core.specs.declared.step.Step.{Step}
use Rattle.lin_log.specs.Language.{plain}
use Rattle.lin_log.specs.Said.{line_says}
use Rattle.lin_log.specs.Words.{text}
use Rattle.lin_log.specs.declared.reason.Reason.{Reason}
use Rattle.linsim_c.specs.Answering.{AnswersLine, AnsweringBench, ending_number}
use Rattle.linsim_c.specs.Statuses.{CallResult}
use Rattle.linsim_c.specs.Writing.{Writes}
use Rattle.linsim_c.specs.declared.fault.Fault.{Fault}
use Rattle.linsim_c.specs.declared.fault.Fault.TheVariants.{BadLine, NoRoom, OutOfMemory, LogFull}
use Rattle.linsim_c.specs.declared.fault.Fault.TheVariants.{Untold, IsClosed}
use Rattle.linsim_c.specs.declared.kept.Session.{Session}
use Rattle.linsim_c.specs.declared.kept.Session.TheVariants.{Script, Bench}

-- what a line of a script says: nothing, or a step; one CR at its end is dropped
abbrev pub script_line : List ℕ → Result (Option (PortId × Step)) Reason
script_line line = line_says plain (strip_carriage_return line)

-- the most bytes of a line that is read, without that CR
abbrev pub most_line_bytes : ℕ
most_line_bytes = 16777216

abbrev pub line_length : List ℕ → ℕ
line_length line = length (strip_carriage_return line)

-- the entry that a step gets, if there is a step
abbrev pub entries_of : CoreData → Option (PortId × Step) → List LogEntry
entries_of c None = []
entries_of c (Some s) = entry_with_reply c s.0 s.1 ∷ []

-- the line is read and says this, and the log grew by its entry
abbrev pub IsLineExecuted : List ℕ → CoreData → CoreData → Option (PortId × Step) → Type 0
IsLineExecuted line c d said =
    (line_length line ≤ most_line_bytes) × (script_line line ≡ Ok said) × (d.log ≡ c.log ++ entries_of c said) × IsAlike c d

-- why a line isn't made
abbrev pub LineFaults : Fault → List ℕ → CoreData → Type 0
LineFaults (BadLine n) line c = (n ≡ 1) × ((most_line_bytes < line_length line) ⊎ IsErr (script_line line))
LineFaults LogFull line c = length c.log ≡ 2 ^ 32 - 1
LineFaults OutOfMemory line c = Unit {0}
LineFaults _ line c = ⊥

-- the log is as it was, for this reason
abbrev pub IsUnmade : Fault → List ℕ → CoreData → CoreData → Type 0
IsUnmade why line c d = (d.log ≡ c.log) × IsAlike c d × LineFaults why line c

abbrev pub StepsBy : Result Unit Fault → List ℕ → CoreData → CoreData → Type 0
StepsBy (Ok done) line c d = (said : Option (PortId × Step)) × IsLineExecuted line c d said
StepsBy (Err why) line c d = IsUnmade why line c d

-- the line is made, and its entry's text written; or made but not told of, for want of room or
-- memory; or not made. Where it isn't written, nothing is.
abbrev pub MakesStep : CallResult → List ℕ → CoreData → CoreData → List ℕ → List ℕ → Type 0
MakesStep (Ok told) line c d old new =
    (said : Option (PortId × Step)) × IsLineExecuted line c d said
    × Writes 0 (Ok told) (text (entries_of c said)) old new
MakesStep (Err (NoRoom told)) line c d old new =
    (said : Option (PortId × Step)) × IsLineExecuted line c d said
    × Writes 0 (Err (NoRoom told)) (text (entries_of c said)) old new
MakesStep (Err Untold) line c d old new =
    ((said : Option (PortId × Step)) × IsLineExecuted line c d said) × (new ≡ old)
MakesStep (Err why) line c d old new = IsUnmade why line c d × (new ≡ old)

-- the same on a session: a step of a script, or a line of a bench script
abbrev pub MakesOn : CallResult → List ℕ → Session → Session → List ℕ → List ℕ → Type 0
MakesOn answer line (Script c) t old new =
    (d : CoreData) × (t ≡ Script d) × MakesStep answer line c d old new
MakesOn answer line (Bench b) t old new =
    (d : AnsweringBench) × (t ≡ Bench d) × AnswersLine answer line b d old new

-- a bench on which a line ended early, for want of memory or of place in the log
abbrev pub is_session_lost : Session → CallResult → Bool
is_session_lost (Bench b) (Err OutOfMemory) = true
is_session_lost (Bench b) (Err LogFull) = true
is_session_lost session answer = false

-- the same behind a handle: a call with no session says so and changes nothing, and a bench that is
-- lost is closed
abbrev pub MakesAtHandle : Option Session → Option Session → CallResult → List ℕ → List ℕ → List ℕ → Type 0
MakesAtHandle None after answer line old new = (answer ≡ Err IsClosed) × (after ≡ None) × (new ≡ old)
MakesAtHandle (Some s) after answer line old new =
    (t : Session) × (after ≡ (if is_session_lost t answer then None else Some t))
    × MakesOn answer line s t old new

-- the text of the newest entry, or the newest answer, is written
abbrev pub TellsOn : CallResult → Session → List ℕ → List ℕ → Type 0
TellsOn answer (Script c) old new = Writes 0 answer (text (drop (length c.log - 1) c.log)) old new
TellsOn answer (Bench b) old new = Writes (ending_number b.answer) answer b.answer old new

-- the same behind a handle, and the session stays as it was
abbrev pub TellsNewest : Option Session → Option Session → CallResult → List ℕ → List ℕ → Type 0
TellsNewest None after answer old new = (answer ≡ Err IsClosed) × (after ≡ None) × (new ≡ old)
TellsNewest (Some s) after answer old new = (after ≡ Some s) × TellsOn answer s old new
