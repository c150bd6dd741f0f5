-- What comparing a log with the text of its own history answers.
use Rattle.std.specs.Prelude.{◌≡◌, ◌≢◌, ℕ, ◌+◌, ◌==◌, List, take, slice_get, count_by, Result, Ok}
use Rattle.std.specs.Prelude.{Err}
use Rattle.lin_parts.specs.declared.parts.Parts.{Parts}
use Rattle.lin_core.specs.declared.port.PortId.{PortId}
use Rattle.lin_core.specs.declared.step.Step.{Step}
use Rattle.lin_log.specs.Replay.{IsScriptOf, ScriptFaults, log_of}
use Rattle.lin_log.specs.Words.{text}
use Rattle.lin_log.specs.declared.fault.ScriptFault.TheVariants as script
use Rattle.lin_tool.specs.declared.fault.Fault.{Fault}
use Rattle.lin_tool.specs.declared.fault.Fault.TheVariants.{BadLine, ScriptTooLong, LogDiffers}
use Rattle.lin_tool.specs.declared.fault.Fault.TheVariants.{OutOfMemory, ReadFailed}

-- Two texts are the same up to some byte, and part there: it is another one, or one of the texts is
-- over. The line in which they part is counted from 1.
pub record PartInLine (left : List ℕ) (right : List ℕ) (line : ℕ) : Type 0 where
  pub common : ℕ
  pub same : take common left ≡ take common right
  pub part : slice_get left common ≢ slice_get right common
  pub counted : line ≡ count_by (λ b. b == 10) (take common left) + 1

-- these bytes are a script, and the text of the history of its steps is as wanted
abbrev pub OfHistory : Parts → ℕ → ℕ → List ℕ → (List ℕ → Type 0) → Type 0
OfHistory c opening capacity bytes IsWanted =
    (said : List (PortId × Step)) × IsScriptOf bytes said
    × IsWanted (text (log_of c opening capacity said))

-- what comparing these bytes with the text of their own history answers
abbrev pub Compares : Parts → ℕ → ℕ → Result Unit Fault → List ℕ → Type 0
Compares c opening capacity (Ok done) bytes =
    OfHistory c opening capacity bytes (λ whole. bytes ≡ whole)
Compares c opening capacity (Err (LogDiffers line)) bytes =
    OfHistory c opening capacity bytes (λ whole. PartInLine bytes whole line)
Compares c opening capacity (Err (BadLine n)) bytes = ScriptFaults (script.BadLine n) bytes
Compares c opening capacity (Err ScriptTooLong) bytes = ScriptFaults script.TooLong bytes
Compares c opening capacity (Err ReadFailed) bytes = Unit {0}
Compares c opening capacity (Err OutOfMemory) bytes = Unit {0}
Compares c opening capacity (Err _) bytes = ⊥
