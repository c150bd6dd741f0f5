-- What a run begins with.
use Rattle.std.proofs.Common.{◌≡◌, refl, ℕ, List, Option, Some, None, Result}
use Rattle.std.specs.Prelude.{IsSome}
use Rattle.std.specs.Borrow.{Bor}
use Rattle.lin_field.specs.declared.field_check.Remark.{Remark}
use Rattle.lin_tool.specs.Coding.{AnswersCoded}
use Rattle.lin_tool.specs.Opening.{AnswersFile}
use Rattle.lin_tool.specs.Reading.{AnswersReading}
use Rattle.lin_tool.specs.declared.coding.Described.{Described}
use Rattle.lin_tool.specs.declared.coding.Extras.{Extras}
use Rattle.lin_tool.specs.declared.describing.Reading.{Reading}
use Rattle.lin_tool.specs.declared.describing.TheConstants.{BUILT_IN}
use Rattle.lin_tool.specs.declared.fault.Fault.{Fault}

-- the cluster of a file, or where there is none of the built-in text
pub answers_file : (file : Option (Bor (List ℕ))) (reading : Reading) (x : Extras) (r : Result Described Fault) (warned : List Remark)
    → (file ≡ None → AnswersCoded x r warned BUILT_IN.now) → (IsSome file → AnswersReading reading x r warned None)
    → AnswersFile file reading x r warned
answers_file None reading x r warned built_in read = built_in refl
answers_file (Some path) reading x r warned built_in read = read refl
