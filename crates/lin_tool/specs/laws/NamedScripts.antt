-- Logs with names as bench scripts.
use Rattle.std.specs.Prelude.{ℕ, List, Option}
use Rattle.std.specs.List.{All}
use Rattle.lin_parts.specs.declared.parts.Parts.{Parts}
use Rattle.lin_parts.specs.declared.description.Description.{Description}
use Rattle.lin_ldf.specs.Describes.{Describes}
use Rattle.lin_cluster.specs.Described.{parts_of}
use Rattle.lin_core.specs.Runs.{steps_of}
use Rattle.lin_core.specs.declared.log.LogEntry.{LogEntry}
use Rattle.lin_log.specs.Language.{named_language}
use Rattle.lin_log.specs.Laws.{FitsEntry, HasNames}
use Rattle.lin_values.specs.Coded.{CodedData}
use Rattle.lin_export.specs.Named.{named_log}
use Rattle.lin_bench.specs.Plain.{HasPlainNames, SaysSteps}

-- a log with names says the log's steps as a bench script, whether it tells what values mean or not
abbrev pub NamedLogs : Type 0
NamedLogs = (c : Parts) (k : Option CodedData) (log : List LogEntry) (opening capacity : ℕ)
    → HasNames (named_language c) → HasPlainNames c → All FitsEntry log
    → SaysSteps c opening capacity (named_log c k log) (steps_of log)

-- the same of each cluster that an LDF text describes: its names are identifiers (ISO 17987-2; LIN
-- 2.2A, section 9.2), and doubles are refused
abbrev pub NamedLogsOfTexts : Type 0
NamedLogsOfTexts = (text : List ℕ) (d : Description) (k : Option CodedData) (log : List LogEntry)
    (opening capacity : ℕ)
    → Describes text d → All FitsEntry log
    → SaysSteps (parts_of d) opening capacity (named_log (parts_of d) k log) (steps_of log)
