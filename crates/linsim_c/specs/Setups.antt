-- The cluster of an LDF text with settings, or why there is none.
use Rattle.std.specs.Prelude.{◌≡◌, ◌≢◌, ◌⊎◌, ◌<◌, ◌≤◌, ℕ, List, ◌∷◌, length, Result, Ok, Err}
use Rattle.lin_ldf.specs.Describes.{Describes}
use Rattle.lin_ldf.specs.Tokens.{IsLexFault}
use Rattle.lin_ldf.specs.declared.fault.LdfFault.{LdfFault}
use Rattle.lin_ldf.specs.declared.fault.LdfFault.TheVariants as ldf
use Rattle.lin_parts.specs.declared.description.Description.{Description}
use Rattle.lin_cluster.specs.Described.{parts_of}
use Rattle.lin_cluster.specs.Findings.{AreFindings, IsFree}
use Rattle.lin_cluster.specs.declared.finding.Finding.{Finding}
use Rattle.lin_parts.specs.declared.parts.Parts.{Parts}
use Rattle.linsim_c.specs.declared.settings.Settings.{Settings}
use Rattle.linsim_c.specs.declared.fault.Fault.{Fault}
use Rattle.linsim_c.specs.declared.fault.Fault.TheVariants.{UnknownFlags, BadCapacity, Ldf}
use Rattle.linsim_c.specs.declared.fault.Fault.TheVariants.{LdfTooLong}
use Rattle.linsim_c.specs.declared.fault.Fault.TheVariants.{NoSuchTable, OutOfMemory}
use Rattle.linsim_c.specs.declared.fault.Fault.TheVariants as fault

-- The cluster of what the text describes, in which nothing is found.
pub record IsClusterOf (text : List ℕ) (c : Parts) : Type 0 where
  pub description : Description
  pub described : Describes text description
  pub free : IsFree description
  pub said : c ≡ parts_of description

-- The text describes nothing; where its tokens have a fault, it is this one.
pub record IsTextFault (text : List ℕ) (f : LdfFault) : Type 0 where
  pub some : f ≢ ldf.OutOfMemory
  pub nothing : (description : Description) → Describes text description → ⊥
  pub first : (lexed : LdfFault) → IsLexFault text lexed → lexed ≢ ldf.OutOfMemory → f ≡ lexed

-- The first, by place and number, of the findings in what the text describes.
pub record IsFirstFinding (text : List ℕ) (first : Finding) : Type 0 where
  pub description : Description
  pub described : Describes text description
  pub others : List Finding
  pub all : AreFindings description (first ∷ others)

-- what a fault of `parse` is to C
abbrev pub IsParseFault : Fault → LdfFault → Type 0
IsParseFault (Ldf told) f = (told ≡ f) × (f ≢ ldf.OutOfMemory)
IsParseFault OutOfMemory f = f ≡ ldf.OutOfMemory
IsParseFault _ f = ⊥

-- why an LDF text gives no cluster
abbrev pub TextFaults : Fault → List ℕ → Type 0
TextFaults (Ldf f) text = IsTextFault text f
TextFaults (fault.Finding f) text = IsFirstFinding text f
TextFaults OutOfMemory text = Unit {0}
TextFaults _ text = ⊥

-- the declarations of an LDF text, or why it has none
abbrev pub AnswersParse : Result Description Fault → List ℕ → Type 0
AnswersParse (Ok description) text = Describes text description
AnswersParse (Err why) text = TextFaults why text

-- what is answered to an LDF text
abbrev pub AnswersText : Result Parts Fault → List ℕ → Type 0
AnswersText (Ok c) text = IsClusterOf text c
AnswersText (Err why) text = TextFaults why text

-- no flag is set, and the capacity is one
abbrev pub AreSound : Settings → Type 0
AreSound s = (s.flags ≡ 0) × (1 ≤ s.capacity) × (s.capacity ≤ 1024)

-- the most bytes of an LDF text that is read
abbrev pub most_ldf_bytes : ℕ
most_ldf_bytes = 4194304

-- such settings, and a text that is read
abbrev pub AreRead : List ℕ → Settings → Type 0
AreRead text s = AreSound s × (length text ≤ most_ldf_bytes)

-- the cluster of the text, where the settings fit it
abbrev pub IsSetUp : Parts → List ℕ → Settings → Type 0
IsSetUp c text s = AreRead text s × IsClusterOf text c × (s.table < length c.tables)

-- why a text with settings gives none, the settings' own faults first, and a missing table last
abbrev pub SetupFaults : Fault → List ℕ → Settings → Type 0
SetupFaults UnknownFlags text s = s.flags ≢ 0
SetupFaults BadCapacity text s = (s.flags ≡ 0) × ((s.capacity ≡ 0) ⊎ (1024 < s.capacity))
SetupFaults LdfTooLong text s = AreSound s × (most_ldf_bytes < length text)
SetupFaults (Ldf f) text s = AreRead text s × IsTextFault text f
SetupFaults (fault.Finding f) text s = AreRead text s × IsFirstFinding text f
SetupFaults NoSuchTable text s =
    AreRead text s × ((c : Parts) × IsClusterOf text c × (length c.tables ≤ s.table))
SetupFaults OutOfMemory text s = Unit {0}
SetupFaults _ text s = ⊥

-- what setting up answers
abbrev pub SetsUp : Result Parts Fault → List ℕ → Settings → Type 0
SetsUp (Ok c) text s = IsSetUp c text s
SetsUp (Err why) text s = SetupFaults why text s
