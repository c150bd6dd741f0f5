-- What a run begins with.
use Rattle.std.specs.Prelude.{◌≡◌, ℕ, List, nat_lt, length, max, min, if◌then◌else◌, Option, Some, None}
use Rattle.std.specs.Prelude.{Bool, false, Result, Ok, Err}
use Rattle.std.specs.Borrow.{Bor}
use Rattle.lin_field.specs.declared.field_check.Remark.{Remark}
use Rattle.lin_parts.specs.Cluster.{first_table}
use Rattle.lin_parts.specs.declared.parts.Parts.{Parts}
use Rattle.lin_tool.specs.Coding.{AnswersCoded}
use Rattle.lin_tool.specs.Reading.{AnswersReading}
use Rattle.lin_tool.specs.declared.coding.Described.{Described}
use Rattle.lin_tool.specs.declared.coding.Encodings.{Encodings}
use Rattle.lin_tool.specs.declared.coding.Encodings.TheVariants.{Unread, Read, Told}
use Rattle.lin_tool.specs.declared.coding.Extras.{Extras}
use Rattle.lin_tool.specs.declared.describing.Reading.{Reading}
use Rattle.lin_tool.specs.declared.describing.TheConstants.{BUILT_IN}
use Rattle.lin_tool.specs.declared.fault.Fault.{Fault}
use Rattle.lin_tool.specs.declared.fault.Fault.TheVariants.{NoSuchTable}
use Rattle.lin_tool.specs.declared.opening.Opened.{Opened}
use Rattle.lin_tool.specs.declared.opening.Settings.{Settings}

-- the table of this name; without a name the first one
abbrev pub opening_of : Parts → Option (Bor (List ℕ)) → Option ℕ
opening_of c (Some name) = first_table c name.now
opening_of c None = if nat_lt 0 (length c.tables) then Some 0 else None

-- how many messages of a host may wait, where so many are asked for
abbrev pub room_for : ℕ → ℕ
room_for n = max 1 (min 1024 n)

-- the table where there is one, and otherwise that there is none
abbrev pub OpensTable : Result ℕ Fault → Option ℕ → Type 0
OpensTable (Ok t) table = table ≡ Some t
OpensTable (Err fault) table = (fault ≡ NoSuchTable) × (table ≡ None)

-- how a run reads the sections of encodings: what they say is told where values are written as what
-- they mean, and it is read where lines may say values in words
abbrev pub encodings_of : Bool → Bool → Encodings
encodings_of is_physical has_words =
    if is_physical then Told else (if has_words then Read else Unread)

abbrev pub extras_of : Bool → Bool → Bool → Extras
extras_of is_physical has_words is_configured =
    record {
      encodings = encodings_of is_physical has_words;
      is_linted = false;
      is_configured = is_configured;
    }

-- the cluster of an LDF file, which is read so; of the built-in text where there is no file
abbrev pub AnswersFile : Option (Bor (List ℕ)) → Reading → Extras → Result Described Fault
    → List Remark → Type 0
AnswersFile None reading x result warned = AnswersCoded x result warned BUILT_IN.now
AnswersFile (Some path) reading x result warned = AnswersReading reading x result warned None

-- What a run of these settings begins with, with these warnings: the cluster and what its values mean
-- are those of its file, the table is the one that is asked for, and the settings stay.
pub record IsOpened (s : Settings) (has_words : Bool) (it : Opened) (warned : List Remark) : Type 0
  where
    pub file
        : AnswersFile s.file s.reading (extras_of s.is_physical has_words s.is_configured)
        (Ok (record { cluster = it.cluster; coded = it.coded; limits = it.limits })) warned
    pub table : opening_of it.cluster s.table ≡ Some it.table
    pub settings : it.settings ≡ s
