-- What is answered to an LDF text of the field.
use Rattle.std.specs.Prelude.{◌≡◌, ◌≢◌, ℕ, ◌<◌, ◌≤◌, ◌++◌, List, length, map, true, Option, Some, IfSome, Result, Ok, Err}
use Rattle.lin_ldf.specs.Symbols.{Symbol, symbols_in}
use Rattle.lin_ldf.specs.Tokens.{AreTokens, IsLexFault}
use Rattle.lin_ldf.specs.declared.fault.LdfFault.{LdfFault}
use Rattle.lin_ldf.specs.declared.fault.LdfFault.TheVariants as ldf
use Rattle.lin_ldf.specs.declared.token.Token.{Token}
use Rattle.lin_cluster.specs.Described.{parts_of}
use Rattle.lin_field.specs.Bytes.{field_bytes}
use Rattle.lin_field.specs.Checks.{remark, remarks, AreRemarks, IsFieldFree, IsRefusalOf}
use Rattle.lin_field.specs.Describes.{ReadsFieldText}
use Rattle.lin_field.specs.Marks.{text_with_blanks, extra_in, without_extra_marks}
use Rattle.lin_field.specs.Order.{byte_order}
use Rattle.lin_field.specs.Plain.{plain_data, plain_text}
use Rattle.lin_field.specs.Settled.{placed_elsewhere, normalized_description, warnings}
use Rattle.lin_field.specs.Signals.{wide_names}
use Rattle.lin_field.specs.declared.field_check.Checked.{Checked}
use Rattle.lin_field.specs.declared.field_check.FieldFault.TheVariants as check
use Rattle.lin_field.specs.declared.field_check.Remark.{Remark}
use Rattle.lin_field.specs.declared.field_text.FieldText.{FieldText}
use Rattle.lin_field.specs.declared.normalizing.Normalized.{Normalized}
use Rattle.lin_text.specs.Written.{WritesText}
use Rattle.lin_tool.specs.Coding.{coded_read, configured_read, configuring_told}
use Rattle.lin_tool.specs.Limits.{node_limits}
use Rattle.lin_tool.specs.Coding.{with_lints, sections_read, AreWarnings}
use Rattle.lin_tool.specs.declared.coding.Described.{Described}
use Rattle.lin_tool.specs.declared.coding.Extras.{Extras}
use Rattle.lin_tool.specs.declared.coding.ExtraSections.{ExtraSections}
use Rattle.lin_tool.specs.declared.fault.Fault.{Fault}
use Rattle.lin_tool.specs.declared.fault.Fault.TheVariants.{Ldf, Remarks, LdfTooLong, OutOfMemory}
use Rattle.lin_tool.specs.declared.fault.Fault.TheVariants.{ReadFailed, WriteFailed}

-- these are the bytes of the text where what is read over is spaces
abbrev pub IsReadOver : List ℕ → List ℕ → Type 0
IsReadOver text left =
    (ts : List Token) × AreTokens (field_bytes text) ts
    × (left ≡ text_with_blanks (field_bytes text) (extra_in ts))

-- this is what the text is settled to
pub record IsNormalized (text : List ℕ) (s : Normalized) : Type 0 where
  pub read : FieldText
  pub reads : ReadsFieldText text read
  pub description : s.description ≡ normalized_description read.loose
  pub wide : s.wide ≡ wide_names read.loose.signals
  pub elsewhere : s.placed_elsewhere ≡ placed_elsewhere read.loose
  pub warnings : s.warnings.items ≡ warnings read
  pub order : s.byte_order.items ≡ byte_order read.loose

-- the text describes nothing; where its tokens have a fault, it is this one
pub record IsFieldFault (text : List ℕ) (fault : LdfFault) : Type 0 where
  pub some : fault ≢ ldf.OutOfMemory
  pub nothing : (read : FieldText) → ReadsFieldText text read → ⊥
  pub first : (lexed : LdfFault) → IsLexFault (field_bytes text) lexed → lexed ≢ ldf.OutOfMemory
      → fault ≡ lexed

-- what a text of the field is settled to, and the bytes that are left of it; or why it isn't
abbrev pub AnswersNormalized : Result Normalized Fault → List ℕ → List ℕ → Type 0
AnswersNormalized (Ok s) text left = IsNormalized text s × IsReadOver text left
AnswersNormalized (Err (Ldf f)) text left = IsFieldFault text f
AnswersNormalized (Err OutOfMemory) text left = Unit {0}
AnswersNormalized (Err _) text left = ⊥

-- what is wrong with what a text is settled to
abbrev pub CheckFaults : Fault → Normalized → Type 0
CheckFaults (Remarks found) s = IsRefusalOf s (check.Remarks found.0)
CheckFaults OutOfMemory s = Unit {0}
CheckFaults _ s = ⊥

-- nothing is, and this is its cluster, and what is remarked
pub record IsChecked (s : Normalized) (checked : Checked) : Type 0 where
  pub free : IsFieldFree s
  pub said : checked.cluster ≡ parts_of s.description
  pub warnings : AreRemarks s checked.warnings

abbrev pub ChecksField : Normalized → Result Checked Fault → Type 0
ChecksField s (Ok checked) = IsChecked s checked
ChecksField s (Err fault) = CheckFaults fault s

-- this is its cluster where its sections say that, with the requests of the commands among these
-- tokens where they are sent, and these are the warnings
pub record IsFieldCluster (x : Extras) (s : Normalized) (k : ExtraSections) (ts : List Symbol)
    (d : Described) (warned : List Remark) : Type 0 where
  pub free : IsFieldFree s
  pub sends : d.cluster ≡ configured_read x.is_configured (parts_of s.description) ts
  pub coded : d.coded ≡ coded_read x.encodings d.cluster k.codings
  pub limits : d.limits ≡ node_limits d.cluster k.limits
  pub warnings
      : AreWarnings x.encodings d.cluster k.codings
      (with_lints s.description s.placed_elsewhere k.configurables k.codings
      (remarks s ++ map (remark true) k.found)
      ++ map (remark true) (configuring_told x.is_configured (parts_of s.description) ts))
      warned

abbrev pub AnswersChecked : Extras → Normalized → ExtraSections → List Symbol → Result Described Fault
    → List Remark → Type 0
AnswersChecked x s k ts (Ok d) warned = IsFieldCluster x s k ts d warned
AnswersChecked x s k ts (Err fault) warned = CheckFaults fault s

-- the tokens of a text of the field, which is settled to this, say this, without the marks that it has too
-- many: its sections, as far as the extras want them, and its commands
abbrev pub FieldSays : Extras → List ℕ → Normalized → ExtraSections → List Symbol → Type 0
FieldSays x text s k said =
    (ts : List Token) × AreTokens (field_bytes text) ts
    × ((said ≡ without_extra_marks (symbols_in (field_bytes text) ts)) × (k ≡ sections_read (Some s.wide) x s.description said))

-- when a reader has this fault: what it has is told, or it isn't
abbrev pub ReadFaults : Fault → Option (List ℕ) → Type 0
ReadFaults LdfTooLong told = IfSome told (λ bytes. 4194304 < length bytes)
ReadFaults OutOfMemory told = Unit {0}
ReadFaults ReadFailed told = Unit {0}
ReadFaults _ told = ⊥

-- what is answered to a text of the field that isn't too long, with these warnings
abbrev pub AnswersFieldText : Extras → Result Described Fault → List Remark → List ℕ → Type 0
AnswersFieldText x (Ok d) warned text =
    (s : Normalized) × IsNormalized text s
    × ((k : ExtraSections) × ((said : List Symbol)
    × (FieldSays x text s k said × IsFieldCluster x s k said d warned)))
AnswersFieldText x (Err (Ldf f)) warned text = IsFieldFault text f
AnswersFieldText x (Err fault) warned text = (s : Normalized) × IsNormalized text s × CheckFaults fault s

-- to what the reader has, where that is told
abbrev pub FieldRead : Extras → Result Described Fault → List Remark → Option (List ℕ) → Type 0
FieldRead x result warned told =
    (text : List ℕ) × IfSome told (λ bytes. text ≡ bytes) × (length text ≤ 4194304)
    × AnswersFieldText x result warned text

-- what is answered to a reader of a text of the field
abbrev pub AnswersField : Extras → Result Described Fault → List Remark → Option (List ℕ)
    → Type 0
AnswersField x (Ok d) warned told = FieldRead x (Ok d) warned told
AnswersField x (Err (Ldf f)) warned told = FieldRead x (Err (Ldf f)) warned told
AnswersField x (Err (Remarks found)) warned told = FieldRead x (Err (Remarks found)) warned told
AnswersField x (Err fault) warned told = ReadFaults fault told

-- of the plain text of what a text of the field is settled to a beginning was written, and after Ok all
-- of it
pub record IsWrittenPlain (old new : Option (List ℕ)) (result : Result Unit Fault) (text : List ℕ)
    : Type 0 where
  pub s : Normalized
  pub settled : IsNormalized text s
  pub free : IsFieldFree s
  pub left : List ℕ
  pub over : IsReadOver text left
  pub written : (ts : List Token) → AreTokens left ts
      → WritesText old new result (plain_text (plain_data s.header s.description left ts))

-- what writing a text of the field as a plain one answers
abbrev pub WritesPlain : Option (List ℕ) → Option (List ℕ) → Result Unit Fault → List ℕ → Type 0
WritesPlain old new (Err (Ldf f)) text = IsFieldFault text f
WritesPlain old new (Err (Remarks found)) text =
    (s : Normalized) × IsNormalized text s × IsRefusalOf s (check.Remarks found.0)
WritesPlain old new (Err OutOfMemory) text = Unit {0}
WritesPlain old new (Ok done) text = IsWrittenPlain old new (Ok done) text
WritesPlain old new (Err WriteFailed) text = IsWrittenPlain old new (Err WriteFailed) text
WritesPlain old new (Err _) text = ⊥
