-- What reading a part of a line answers, beside what the definition reads.
use Rattle.std.specs.Prelude.{◌≡◌, Bool, true, false, List, [], ◌∷◌, Option, Some, None, Result, Ok, Err}
use Rattle.lin_log.specs.declared.reason.LineFault.{LineFault as StepFault}
use Rattle.lin_log.specs.declared.reason.LineFault.TheVariants as faults
use Rattle.lin_bench.specs.declared.fault.LineFault.{LineFault}
use Rattle.lin_bench.specs.declared.fault.LineFault.TheVariants.{Bad, OutOfMemory}
use Rattle.lin_bench.specs.declared.fault.ReadFault.{ReadFault}
use Rattle.lin_bench.specs.declared.fault.ReadFault.TheVariants.{BadLine, OutOfMemory as NoMemory}
use Rattle.lin_bench.specs.declared.line.ScriptLine.{ScriptLine}
use Rattle.lin_bench.specs.declared.place.LinePlace.{LinePlace}
use Rattle.lin_bench.specs.declared.reason.Reason.{Reason}
use Rattle.lin_bench.specs.declared.reason.Reason.TheVariants.{Step}
use Rattle.lin_bench.specs.declared.resolving.Item.{Item as LineItem}
use Rattle.lin_bench.specs.declared.rules.NodeLimits.{NodeLimits}
use Rattle.lin_values.specs.Coded.{CodedData}
use Rattle.lin_bench.specs.Resolving.{item_of}
use Rattle.lin_bench.specs.Scripts.{Script, item_read, with_line}
use Rattle.lin_parts.specs.declared.parts.Parts.{Parts}

-- a fault of a line of steps
abbrev pub step_fault : StepFault → LineFault
step_fault (faults.Bad why) = Bad (Step why)
step_fault faults.OutOfMemory = OutOfMemory

abbrev pub Fails : {Y : Type 0} → LineFault → Result Y Reason → Type 0
Fails (Bad why) read = read ≡ Err why
Fails OutOfMemory read = Unit {0}

abbrev pub Gives : {X Y : Type 0} → (X → Y) → Result X LineFault → Result Y Reason → Type 0
Gives view (Ok x) read = read ≡ Ok (view x)
Gives view (Err e) read = Fails e read

abbrev pub is_bad_line : {X : Type 0} → Result X LineFault → Bool
is_bad_line (Ok x) = false
is_bad_line (Err (Bad why)) = true
is_bad_line (Err OutOfMemory) = false

-- what reading a bench script answers
abbrev pub ReadFails : ReadFault → Script → Type 0
ReadFails (BadLine p why) said = said ≡ Err (p, why)
ReadFails NoMemory said = Unit {0}

abbrev pub ReadsBenchScript : {X : Type 0} → (X → List (LinePlace × ScriptLine)) → Result X ReadFault → Script → Type 0
ReadsBenchScript view (Ok x) said = said ≡ Ok (view x)
ReadsBenchScript view (Err e) said = ReadFails e said

-- what a line says after what it resolves
abbrev pub item_text_read
    : Parts → Option CodedData → List NodeLimits → LineItem → Result (Option ScriptLine) Reason
item_text_read c k limits item = item_read c k limits (item_of item)

-- what asking for the next line answers: of what the lines said, and of what those after it say
abbrev pub NextLine : Result (Option (LinePlace × ScriptLine)) ReadFault → Script → Script → Type 0
NextLine (Ok None) old new = old ≡ Ok []
NextLine (Ok (Some l)) old new = old ≡ with_line l new
NextLine (Err e) old new = ReadFails e old

-- a script that is read has no bad line, and otherwise the first of them is why it isn't read
abbrev pub AreBadOf : Script → List (LinePlace × Reason) → Type 0
AreBadOf (Ok ls) bad = bad ≡ []
AreBadOf (Err first) bad = (rest : List (LinePlace × Reason)) × (bad ≡ first ∷ rest)

-- why a line is bad, if it is
abbrev pub IsWhy : Result (Option ScriptLine) Reason → Option Reason → Type 0
IsWhy read None = (said : Option ScriptLine) × (read ≡ Ok said)
IsWhy read (Some why) = read ≡ Err why
