-- A whole run: a script's steps over the cluster of an LDF text, and the text of their log.
use Rattle.std.specs.Prelude.{◌≡◌, ℕ, List, Result, Ok, Err}
use Rattle.lin_parts.specs.declared.parts.Parts.{Parts}
use Rattle.lin_core.specs.Core.{CoreData}
use Rattle.lin_core.specs.declared.log.LogEntry.{LogEntry}
use Rattle.lin_core.specs.declared.port.PortId.{PortId}
use Rattle.lin_core.specs.declared.step.Step.{Step}
use Rattle.lin_log.specs.Replay.{IsScriptOf, ScriptFaults, log_of}
use Rattle.lin_log.specs.Words.{text}
use Rattle.lin_log.specs.declared.fault.ScriptFault.TheVariants as script
use Rattle.linsim_c.specs.Setups.{IsSetUp, SetupFaults}
use Rattle.linsim_c.specs.Statuses.{CallResult}
use Rattle.linsim_c.specs.Writing.{Writes}
use Rattle.linsim_c.specs.declared.fault.Fault.{Fault}
use Rattle.linsim_c.specs.declared.fault.Fault.TheVariants.{ScriptTooLong, BadLine, NoRoom}
use Rattle.linsim_c.specs.declared.settings.Settings.{Settings}

-- the log of the script's steps over the text's cluster
pub record IsRunLog (ldf : List ℕ) (s : Settings) (bytes : List ℕ) (log : List LogEntry)
    : Type 0 where
  pub cluster : Parts
  pub set_up : IsSetUp cluster ldf s
  pub steps : List (PortId × Step)
  pub script : IsScriptOf bytes steps
  pub logged : log ≡ log_of cluster s.table s.capacity steps

-- why a run has no log: faults of the text and the settings come before those of the script
abbrev pub RunFaults : Fault → List ℕ → Settings → List ℕ → Type 0
RunFaults ScriptTooLong ldf s bytes =
    ((c : Parts) × IsSetUp c ldf s) × ScriptFaults script.TooLong bytes
RunFaults (BadLine n) ldf s bytes =
    ((c : Parts) × IsSetUp c ldf s) × ScriptFaults (script.BadLine n) bytes
RunFaults why ldf s bytes = SetupFaults why ldf s

abbrev pub Runs : Result CoreData Fault → List ℕ → Settings → List ℕ → Type 0
Runs (Ok core) ldf s bytes = IsRunLog ldf s bytes core.log
Runs (Err why) ldf s bytes = RunFaults why ldf s bytes

-- the text of the run's log, written or without room; or why there is none, and nothing is written
abbrev pub AnswersReplay : CallResult → List ℕ → Settings → List ℕ → List ℕ → List ℕ → Type 0
AnswersReplay (Ok told) ldf s bytes old new =
    (log : List LogEntry) × IsRunLog ldf s bytes log × Writes 0 (Ok told) (text log) old new
AnswersReplay (Err (NoRoom told)) ldf s bytes old new =
    (log : List LogEntry) × IsRunLog ldf s bytes log × Writes 0 (Err (NoRoom told)) (text log) old new
AnswersReplay (Err why) ldf s bytes old new = RunFaults why ldf s bytes × (new ≡ old)
