-- What reading a script, replaying it and listing a log's steps answer.
use Rattle.std.specs.Prelude.{◌≡◌, ℕ, ◌<◌, ◌≤◌, List, ◌++◌, reverse, Option, Some, Result, Ok, Err}
use Rattle.std.specs.Prelude.{IfSome, length}
use Rattle.std.specs.Io.KnownBytes.{Appends, Keeps}
use Rattle.lin_parts.specs.declared.parts.Parts.{Parts}
use Rattle.lin_core.specs.Runs.{history, steps_of}
use Rattle.lin_core.specs.declared.port.PortId.{PortId}
use Rattle.lin_core.specs.declared.step.Step.{Step}
use Rattle.lin_core.specs.declared.log.LogEntry.{LogEntry}
use Rattle.lin_log.specs.Script.{script, steps}
use Rattle.lin_log.specs.Words.{text}
use Rattle.lin_log.specs.declared.fault.ScriptFault.{ScriptFault}
use Rattle.lin_log.specs.declared.fault.ScriptFault.TheVariants.{BadLine, TooLong, ReadFailed}
use Rattle.lin_log.specs.declared.fault.ScriptFault.TheVariants.{OutOfMemory as NoMemory}
use Rattle.lin_log.specs.declared.fault.ReplayFault.{ReplayFault}
use Rattle.lin_log.specs.declared.fault.ReplayFault.TheVariants.{Script, OutOfMemory, WriteFailed}

-- the most bytes of a script
abbrev pub IsWithinScriptLimit : List ℕ → Type 0
IsWithinScriptLimit bytes = length bytes ≤ 16777216

-- when a script of these bytes has this fault
abbrev pub ScriptFaults : ScriptFault → List ℕ → Type 0
ScriptFaults (BadLine n) bytes = IsWithinScriptLimit bytes × (script bytes ≡ Err n)
ScriptFaults TooLong bytes = 16777216 < length bytes
ScriptFaults ReadFailed bytes = Unit {0}
ScriptFaults NoMemory bytes = Unit {0}

-- these bytes are a script of these steps
abbrev pub IsScriptOf : List ℕ → List (PortId × Step) → Type 0
IsScriptOf bytes said = IsWithinScriptLimit bytes × (steps bytes ≡ Some said)

-- what reading a script of these bytes answers
abbrev pub ReadsScript : {X : Type 0} → (X → List (PortId × Step)) → Result X ScriptFault
    → List ℕ → Type 0
ReadsScript view (Ok x) bytes = IsScriptOf bytes (view x)
ReadsScript view (Err e) bytes = ScriptFaults e bytes

-- when reading a script's bytes has this fault; the reader's bytes, where they are known
abbrev pub ByteFaults : ScriptFault → Option (List ℕ) → Type 0
ByteFaults (BadLine n) known = ⊥
ByteFaults TooLong known = IfSome known (λ bytes. 16777216 < length bytes)
ByteFaults ReadFailed known = Unit {0}
ByteFaults NoMemory known = Unit {0}

-- the bytes of a script, those of the reader where they are known
abbrev pub ReadsBytes : {X : Type 0} → (X → List ℕ) → Result X ScriptFault → Option (List ℕ)
    → Type 0
ReadsBytes view (Ok x) known =
    IfSome known (λ bytes. view x ≡ bytes) × (length (view x) ≤ 16777216)
ReadsBytes view (Err e) known = ByteFaults e known

-- the log of these steps, both the oldest first
abbrev pub log_of : Parts → ℕ → ℕ → List (PortId × Step) → List LogEntry
log_of c opening capacity said = reverse (history c opening capacity (reverse said))

-- a replay's fault for one of its script
abbrev pub replay_fault : ScriptFault → ReplayFault
replay_fault (BadLine n) = Script (BadLine n)
replay_fault TooLong = Script TooLong
replay_fault ReadFailed = Script ReadFailed
replay_fault NoMemory = OutOfMemory

-- what making the steps of a script of these bytes answers
abbrev pub RunsScript : {X : Type 0} → Parts → ℕ → ℕ → (X → List LogEntry)
    → Result X ScriptFault → List ℕ → Type 0
RunsScript c opening capacity view (Ok x) bytes =
    (said : List (PortId × Step)) × IsScriptOf bytes said
    × (view x ≡ log_of c opening capacity said)
RunsScript c opening capacity view (Err fault) bytes = ScriptFaults fault bytes

-- what a replay answers, and what the writer took: of the script's bytes where they are known, and
-- of some steps in any case
abbrev pub IsReplay : {X : Type 0} → Parts → ℕ → ℕ → (X → List LogEntry) → Result X ReplayFault
    → Option (List ℕ) → Option (List ℕ) → Option (List ℕ) → Type 0
IsReplay c opening capacity view (Ok x) known old new =
    (said : List (PortId × Step)) × IfSome known (λ bytes. IsScriptOf bytes said)
    × (view x ≡ log_of c opening capacity said) × Appends old new (text (view x))
IsReplay c opening capacity view (Err (Script fault)) known old new =
    IfSome known (ScriptFaults fault) × Keeps old new
IsReplay c opening capacity view (Err OutOfMemory) known old new = Keeps old new
IsReplay c opening capacity view (Err WriteFailed) known old new =
    (said : List (PortId × Step)) × IfSome known (λ bytes. IsScriptOf bytes said)
    × (part rest : List ℕ) × (text (log_of c opening capacity said) ≡ part ++ rest)
    × Appends old new part

-- the text of these entries is a script of these steps
abbrev pub ReadsAgain : List LogEntry → List (PortId × Step) → Type 0
ReadsAgain entries said = steps (text entries) ≡ Some said

-- where the entries are a history, the log of these steps is those entries
abbrev pub RunsAgain : List LogEntry → List (PortId × Step) → Type 0
RunsAgain entries said =
    (c : Parts) (opening capacity : ℕ)
    → reverse entries ≡ history c opening capacity (steps_of (reverse entries))
    → log_of c opening capacity said ≡ entries
