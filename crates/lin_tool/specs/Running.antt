-- What `linsim run` reads and writes.
use Rattle.std.specs.Prelude.{◌≡◌, ◌≢◌, ℕ, List, Option, Result, Ok, Err}
use Rattle.std.specs.Io.KnownBytes.{Appends}
use Rattle.std.specs.Global.{Vec}
use Rattle.std.specs.List.{All, Contains}
use Rattle.lin_core.specs.declared.port.PortId.{PortId}
use Rattle.lin_core.specs.declared.step.Step.{Step}
use Rattle.lin_log.specs.Replay.{ScriptFaults, IsScriptOf}
use Rattle.lin_log.specs.declared.fault.ScriptFault.TheVariants as script
use Rattle.lin_threads.specs.declared.ports.steps.HostStep.{HostStep}
use Rattle.lin_threads.specs.Splitting.{IsSplit, IsFirstOther}
use Rattle.lin_threads.specs.declared.splitting.SplitFault.{SplitFault}
use Rattle.lin_threads.specs.declared.splitting.SplitFault.TheVariants as split
use Rattle.lin_threads.specs.declared.runs.RunFault.{RunFault}
use Rattle.lin_threads.specs.declared.runs.RunFault.TheVariants as run
use Rattle.lin_threads.specs.declared.runs.Ended.TheVariants as ended
use Rattle.lin_threads.specs.declared.runs.Ended.{Ended}
use Rattle.lin_tool.specs.Formats.{Begins}
use Rattle.lin_tool.specs.declared.fault.Fault.{Fault}
use Rattle.lin_tool.specs.declared.fault.Fault.TheVariants.{BadLine, ScriptTooLong, NotHostStep}
use Rattle.lin_tool.specs.declared.fault.Fault.TheVariants.{OutOfMemory, ReadFailed, WriteFailed}
use Rattle.lin_tool.specs.declared.fault.Fault.TheVariants.{TaskLimit, NoThread, LogFull}
use Rattle.lin_tool.specs.declared.formats.Format.{Format}
use Rattle.lin_tool.specs.declared.formats.Format.TheVariants.{Log}

-- the program's fault for a fault of splitting
abbrev pub split_fault : SplitFault → Fault
split_fault (split.NotHost index) = NotHostStep index
split_fault split.OutOfMemory = OutOfMemory

-- the program's fault for one of a run
abbrev pub run_fault : RunFault → Fault
run_fault run.LogFull = LogFull
run_fault run.OutOfMemory = OutOfMemory
run_fault run.NoThread = NoThread

-- a script's steps were read, each host's into a list of its own; or it has this fault, and then
-- the reader's bytes, or the step that it tells is the first that is no host's
abbrev pub ReadsHosts : ℕ → Result (Vec (Vec HostStep)) Fault → List ℕ → Type 0
ReadsHosts hosts (Ok lists) bytes =
    (said : List (PortId × Step)) × IsScriptOf bytes said × IsSplit hosts said lists.items
ReadsHosts hosts (Err (BadLine n)) bytes = ScriptFaults (script.BadLine n) bytes
ReadsHosts hosts (Err ScriptTooLong) bytes = ScriptFaults script.TooLong bytes
ReadsHosts hosts (Err (NotHostStep index)) bytes =
    (said : List (PortId × Step)) × IsScriptOf bytes said × IsFirstOther hosts said index
ReadsHosts hosts (Err OutOfMemory) bytes = Unit {0}
ReadsHosts hosts (Err ReadFailed) bytes = Unit {0}
ReadsHosts hosts (Err _) bytes = ⊥

-- All that is shown of the log was written, and each task was done or one met its limit; or writing
-- stopped at some place. (The log's own text takes no memory.)
abbrev pub WritesRun : Format → List ℕ → List Ended
    → Option (List ℕ) → Option (List ℕ) → Result Unit Fault → Type 0
WritesRun format whole tasks old new (Ok x) =
    Appends old new whole × All (λ task. task ≡ ended.Done) tasks
WritesRun format whole tasks old new (Err TaskLimit) =
    Appends old new whole × Contains tasks ended.Limit
WritesRun format whole tasks old new (Err WriteFailed) = Begins old new whole
WritesRun format whole tasks old new (Err OutOfMemory) = (format ≢ Log) × Begins old new whole
WritesRun format whole tasks old new (Err _) = ⊥
