-- The cluster of an LDF text, or why there is none.
use Rattle.std.specs.Prelude.{◌≡◌, ◌≢◌, ℕ, List, Result, Ok, Err}
use Rattle.lin_ldf.specs.Describes.{Describes}
use Rattle.lin_ldf.specs.Tokens.{IsLexFault}
use Rattle.lin_ldf.specs.declared.fault.LdfFault.{LdfFault}
use Rattle.lin_ldf.specs.declared.fault.LdfFault.TheVariants as ldf
use Rattle.lin_parts.specs.declared.description.Description.{Description}
use Rattle.lin_cluster.specs.Checks.{IsCheckFault}
use Rattle.lin_cluster.specs.Described.{parts_of}
use Rattle.lin_cluster.specs.Findings.{IsFree}
use Rattle.lin_cluster.specs.SlotTimes.{NoSlotIsShort}
use Rattle.lin_cluster.specs.declared.finding.CheckFault.TheVariants as check
use Rattle.lin_cluster.specs.declared.finding.Finding.{Finding}
use Rattle.lin_parts.specs.declared.parts.Parts.{Parts}
use Rattle.lin_tool.specs.declared.fault.Fault.{Fault}
use Rattle.lin_tool.specs.declared.fault.Fault.TheVariants.{Ldf, Findings, OutOfMemory}

-- This is the cluster of a description in which nothing is found, so that no slot is short.
pub record IsSaidBy (description : Description) (answer : Parts) : Type 0 where
  pub free : IsFree description
  pub said : answer ≡ parts_of description
  pub long : NoSlotIsShort answer

-- This is the cluster of what the text describes, in which nothing is found, so that no slot is
-- short.
pub record IsClusterOf (text : List ℕ) (answer : Parts) : Type 0 where
  pub description : Description
  pub described : Describes text description
  pub free : IsFree description
  pub said : answer ≡ parts_of description
  pub long : NoSlotIsShort answer

-- The text describes nothing; where its tokens have a fault, it is this one.
pub record IsTextFault (text : List ℕ) (fault : LdfFault) : Type 0 where
  pub some : fault ≢ ldf.OutOfMemory
  pub nothing : (description : Description) → Describes text description → ⊥
  pub first : (lexed : LdfFault) → IsLexFault text lexed → lexed ≢ ldf.OutOfMemory → fault ≡ lexed

-- These are all the findings, one at least, in what the text describes.
pub record AreTextFindings (text : List ℕ) (found : List Finding) : Type 0 where
  pub description : Description
  pub described : Describes text description
  pub all : IsCheckFault description (check.Findings found)

-- the program's fault for one of `parse`
abbrev pub IsParseFault : Fault → LdfFault → Type 0
IsParseFault (Ldf told) fault = (told ≡ fault) × (fault ≢ ldf.OutOfMemory)
IsParseFault OutOfMemory fault = fault ≡ ldf.OutOfMemory
IsParseFault _ fault = ⊥

-- why an LDF text gives no cluster
abbrev pub TextFaults : Fault → List ℕ → Type 0
TextFaults (Ldf f) text = IsTextFault text f
TextFaults (Findings found) text = AreTextFindings text found.0
TextFaults OutOfMemory text = Unit {0}
TextFaults _ text = ⊥

-- what is answered to an LDF text
abbrev pub AnswersText : Result Parts Fault → List ℕ → Type 0
AnswersText (Ok answer) text = IsClusterOf text answer
AnswersText (Err fault) text = TextFaults fault text

-- the description of an LDF text, or why there is none
abbrev pub AnswersParse : Result Description Fault → List ℕ → Type 0
AnswersParse (Ok description) text = Describes text description
AnswersParse (Err fault) text = TextFaults fault text
