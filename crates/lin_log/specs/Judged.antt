-- What the parts of reading a script answer.
use Rattle.std.specs.Prelude.{◌≡◌, ℕ, ◌+◌, ◌==◌, List, [], ◌∷◌, ◌++◌, length, Option, Some, None, Result}
use Rattle.std.specs.Prelude.{Ok, Err}
use Rattle.std.specs.Borrow.{Bor}
use Rattle.std.specs.List.{slice_split}
use Rattle.lin_core.specs.declared.port.PortId.{PortId}
use Rattle.lin_core.specs.declared.step.Step.{Step}
use Rattle.lin_parts.specs.declared.parts.Parts.{Parts}
use Rattle.lin_core.specs.declared.log.LogEntry.{LogEntry}
use Rattle.lin_log.specs.Replay.{log_of}
use Rattle.lin_log.specs.Language.{plain}
use Rattle.lin_log.specs.Said.{steps_from}
use Rattle.lin_log.specs.Script.{without_reason}
use Rattle.lin_log.specs.declared.script.ScriptLines.{ScriptLines}
use Rattle.lin_log.specs.declared.fault.ScriptFault.{ScriptFault}
use Rattle.lin_log.specs.declared.fault.ScriptFault.TheVariants.{BadLine, TooLong, ReadFailed}
use Rattle.lin_log.specs.declared.fault.ScriptFault.TheVariants.{OutOfMemory}

-- the lines of the text that is left, and a measure of it
abbrev pub lines_left : Option (Bor (List ℕ)) → List (List ℕ)
lines_left None = []
lines_left (Some t) = slice_split (λ b. b == 10) t.now

abbrev pub left_length : Option (Bor (List ℕ)) → ℕ
left_length None = 0
left_length (Some t) = length t.now + 1

abbrev pub JudgeFaults : ScriptFault → Result (List (PortId × Step)) ℕ → Type 0
JudgeFaults (BadLine n) r = r ≡ Err n
JudgeFaults TooLong r = ⊥
JudgeFaults ReadFailed r = ⊥
JudgeFaults OutOfMemory r = Unit {0}

abbrev pub Judges : {X : Type 0} → (X → List (PortId × Step)) → Result X ScriptFault
    → Result (List (PortId × Step)) ℕ → Type 0
Judges view (Ok x) r = r ≡ Ok (view x)
Judges view (Err e) r = JudgeFaults e r

-- what the lines that are left say
abbrev pub steps_left : ScriptLines → Result (List (PortId × Step)) ℕ
steps_left lines = without_reason (steps_from plain lines.number (lines_left lines.left))

abbrev pub with_prefix : {E : Type 0} → List (PortId × Step) → Result (List (PortId × Step)) E
    → Result (List (PortId × Step)) E
with_prefix xs (Ok ys) = Ok (xs ++ ys)
with_prefix xs (Err e) = Err e

-- what asking for the next step answers, where the lines said `old`; those after its line say `new`
abbrev pub NextStep : Result (Option (PortId × Step)) ScriptFault → Result (List (PortId × Step)) ℕ
    → Result (List (PortId × Step)) ℕ → Type 0
NextStep (Ok None) old new = old ≡ Ok []
NextStep (Ok (Some step)) old new = old ≡ with_prefix (step ∷ []) new
NextStep (Err e) old new = JudgeFaults e old

-- what making the steps that lines say answers, and the log of those steps
abbrev pub MakesLines : Parts → ℕ → ℕ → Result Unit ScriptFault → List LogEntry
    → Result (List (PortId × Step)) ℕ → Type 0
MakesLines c opening capacity (Ok done) log r =
    (steps : List (PortId × Step)) × (r ≡ Ok steps) × (log ≡ log_of c opening capacity steps)
MakesLines c opening capacity (Err fault) log r = JudgeFaults fault r
