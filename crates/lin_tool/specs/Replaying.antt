-- What the program's replay answers.
use Rattle.std.specs.Prelude.{◌≡◌, ◌≢◌, ◌⊎◌, ℕ, List, [], Option, None, IfSome, Result, Ok, Err}
use Rattle.std.specs.Io.KnownBytes.{Appends, Keeps}
use Rattle.lin_parts.specs.declared.parts.Parts.{Parts}
use Rattle.lin_core.specs.declared.log.LogEntry.{LogEntry}
use Rattle.lin_core.specs.declared.port.PortId.{PortId}
use Rattle.lin_core.specs.declared.step.Step.{Step}
use Rattle.lin_log.specs.Replay.{IsScriptOf, ScriptFaults, log_of}
use Rattle.lin_log.specs.declared.fault.ScriptFault.{ScriptFault}
use Rattle.lin_log.specs.declared.fault.ScriptFault.TheVariants as script
use Rattle.lin_log.specs.declared.fault.ReplayFault.{ReplayFault}
use Rattle.lin_log.specs.declared.fault.ReplayFault.TheVariants as replay
use Rattle.lin_values.specs.Coded.{CodedData}
use Rattle.lin_tool.specs.Formats.{Begins, log_in_format}
use Rattle.lin_tool.specs.Opening.{room_for}
use Rattle.lin_tool.specs.declared.fault.Fault.{Fault}
use Rattle.lin_tool.specs.declared.fault.Fault.TheVariants.{BadLine, ScriptTooLong, OutOfMemory}
use Rattle.lin_tool.specs.declared.fault.Fault.TheVariants.{ReadFailed, WriteFailed}
use Rattle.lin_tool.specs.declared.formats.Format.{Format}
use Rattle.lin_tool.specs.declared.formats.Format.TheVariants.{Log}
use Rattle.lin_tool.specs.declared.opening.Opened.{Opened}

-- the program's fault for a fault of a script
abbrev pub fault_of_script : ScriptFault → Fault
fault_of_script (script.BadLine n) = BadLine n
fault_of_script script.TooLong = ScriptTooLong
fault_of_script script.ReadFailed = ReadFailed
fault_of_script script.OutOfMemory = OutOfMemory

-- the program's fault for one of a replay
abbrev pub fault_of_replay : ReplayFault → Fault
fault_of_replay (replay.Script fault) = fault_of_script fault
fault_of_replay replay.OutOfMemory = OutOfMemory
fault_of_replay replay.WriteFailed = WriteFailed

-- the log of the steps of a script: of its bytes where the reader tells them, and of some steps in
-- any case
abbrev pub IsLogOf : Parts → ℕ → ℕ → Option (List ℕ) → List LogEntry → Type 0
IsLogOf c opening capacity told log =
    (said : List (PortId × Step)) × IfSome told (λ bytes. IsScriptOf bytes said)
    × (log ≡ log_of c opening capacity said)

-- the script has this fault, where the reader tells its bytes, and nothing was written
abbrev pub RefusesScript : ScriptFault → Option (List ℕ) → Option (List ℕ) → Option (List ℕ) → Type 0
RefusesScript fault told old new = IfSome told (ScriptFaults fault) × Keeps old new

-- of the log in this format a beginning was written
abbrev pub StopsReplay : Format → Option CodedData → Parts → ℕ → ℕ
    → Option (List ℕ) → Option (List ℕ) → Option (List ℕ) → Type 0
StopsReplay format k c opening capacity told old new =
    (log : List LogEntry) × IsLogOf c opening capacity told log
    × Begins old new (log_in_format format None [] c k opening capacity log [] [])

-- What a replay in this format answers, and what the writer took. (The log's own text takes no
-- memory: where there isn't enough, nothing of it was written.)
abbrev pub Replays : Format → Option CodedData → Parts → ℕ → ℕ → Result Unit Fault
    → Option (List ℕ) → Option (List ℕ) → Option (List ℕ) → Type 0
Replays format k c opening capacity (Ok done) told old new =
    (log : List LogEntry) × IsLogOf c opening capacity told log
    × Appends old new (log_in_format format None [] c k opening capacity log [] [])
Replays format k c opening capacity (Err (BadLine n)) told old new =
    RefusesScript (script.BadLine n) told old new
Replays format k c opening capacity (Err ScriptTooLong) told old new =
    RefusesScript script.TooLong told old new
Replays format k c opening capacity (Err ReadFailed) told old new = Keeps old new
Replays format k c opening capacity (Err OutOfMemory) told old new =
    Keeps old new ⊎ ((format ≢ Log) × StopsReplay format k c opening capacity told old new)
Replays format k c opening capacity (Err WriteFailed) told old new =
    StopsReplay format k c opening capacity told old new
Replays format k c opening capacity (Err _) told old new = ⊥

-- the same with what was opened
abbrev pub ReplaysOpened : Opened → Result Unit Fault → Option (List ℕ) → Option (List ℕ) → Option (List ℕ) → Type 0
ReplaysOpened o result told old new =
    Replays o.settings.format o.coded o.cluster o.table (room_for o.settings.capacity) result told old new
