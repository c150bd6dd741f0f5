-- What reading an LDF text answers, and the cluster of what was read.
use Rattle.std.specs.Prelude.{◌≡◌, ℕ, ◌≤◌, List, length, Option, IfSome, Result, Ok, Err}
use Rattle.lin_tool.specs.Coding.{AnswersCoded}
use Rattle.lin_field.specs.declared.field_check.Remark.{Remark}
use Rattle.lin_tool.specs.Field.{AnswersField, ReadFaults}
use Rattle.lin_tool.specs.declared.coding.Described.{Described}
use Rattle.lin_tool.specs.declared.coding.Extras.{Extras}
use Rattle.lin_tool.specs.declared.fault.Fault.{Fault}
use Rattle.lin_tool.specs.declared.fault.Fault.TheVariants.{Ldf, Findings}
use Rattle.lin_tool.specs.declared.describing.Reading.{Reading}
use Rattle.lin_tool.specs.declared.describing.Reading.TheVariants.{Plain, Field}

-- what reading all the bytes of a reader answers
abbrev pub ReadsWholeInput : {X : Type 0} → (X → List ℕ) → Result X Fault → Option (List ℕ) → Type 0
ReadsWholeInput view (Ok x) told = IfSome told (λ bytes. view x ≡ bytes) × (length (view x) ≤ 4194304)
ReadsWholeInput view (Err fault) told = ReadFaults fault told

-- this is answered to a text that isn't too long, with these warnings: to what the reader has, where
-- that is told
abbrev pub AnswersRead : Extras → Result Described Fault → List Remark → Option (List ℕ)
    → Type 0
AnswersRead x result warned told =
    (text : List ℕ) × IfSome told (λ bytes. text ≡ bytes) × (length text ≤ 4194304)
    × AnswersCoded x result warned text

-- what is answered to a reader of an LDF text
abbrev pub AnswersLdf : Extras → Result Described Fault → List Remark → Option (List ℕ) → Type 0
AnswersLdf x (Ok d) warned told = AnswersRead x (Ok d) warned told
AnswersLdf x (Err (Ldf f)) warned told = AnswersRead x (Err (Ldf f)) warned told
AnswersLdf x (Err (Findings found)) warned told = AnswersRead x (Err (Findings found)) warned told
AnswersLdf x (Err fault) warned told = ReadFaults fault told

-- what is answered to a reader of an LDF text that is read so
abbrev pub AnswersReading : Reading → Extras → Result Described Fault → List Remark
    → Option (List ℕ) → Type 0
AnswersReading Plain x result warned told = AnswersLdf x result warned told
AnswersReading Field x result warned told = AnswersField x result warned told
