-- What the program says of a fault, as lines.
use Rattle.std.specs.Prelude.{ℕ, ◌==◌, List, [], ◌∷◌, ◌++◌, flat_map, if◌then◌else◌, codes, Option, Some, None}
use Rattle.std.specs.Fmt.{decimal}
use Rattle.lin_parts.specs.declared.place.Location.{Location}
use Rattle.lin_ldf.specs.declared.fault.LdfFault.{LdfFault}
use Rattle.lin_ldf.specs.declared.fault.LdfFault.TheVariants as ldf
use Rattle.lin_cluster.specs.declared.finding.Finding.{Finding}
use Rattle.lin_cluster.specs.Kinds.{finding_name}
use Rattle.lin_field.specs.declared.field_check.Remark.{Remark}
use Rattle.lin_log.specs.Words.{line}
use Rattle.lin_tool.specs.declared.fault.Fault.{Fault}
use Rattle.lin_tool.specs.declared.fault.Fault.TheVariants.{BadLine, Ldf, Findings, LdfTooLong}
use Rattle.lin_tool.specs.declared.fault.Fault.TheVariants.{ScriptTooLong, NotHostStep, NoSuchTable}
use Rattle.lin_tool.specs.declared.fault.Fault.TheVariants.{OutOfMemory, ReadFailed, WriteFailed}
use Rattle.lin_tool.specs.declared.fault.Fault.TheVariants.{TaskLimit, NoThread, LogFull}
use Rattle.lin_tool.specs.declared.fault.Fault.TheVariants.{LogDiffers, SlotLimit, BadBenchLine, UnusedParameter}
use Rattle.lin_tool.specs.declared.fault.Fault.TheVariants.{UnreadFile, LongFile, Several}
use Rattle.lin_tool.specs.declared.fault.Fault.TheVariants.{BadLines, Differs, Unmet, Remarks}
use Rattle.lin_tool.specs.declared.fault.Fault.TheVariants.{BadFaults, Denied}

-- a line and a column
abbrev pub place_word : ℕ → ℕ → List ℕ
place_word line column = decimal line ++ 58 ∷ decimal column

-- of a slot that is too short the time in microseconds that it needs
abbrev pub needed_words : Finding → List (List ℕ)
needed_words finding = if finding.number == 9 then decimal finding.needed_us ∷ [] else []

-- a finding, after the word for what it is
abbrev pub reported_line : List ℕ → Finding → List ℕ
reported_line word f =
    line
    (place_word f.line f.column ∷ word ∷ decimal f.number ∷ finding_name f.number ∷ needed_words f)

abbrev pub finding_line : Finding → List ℕ
finding_line f = reported_line (codes "finding") f

-- a finding or a warning
abbrev pub remark_word : Remark → List ℕ
remark_word r = if r.is_warning then codes "warning" else codes "finding"

abbrev pub remark_line : Remark → List ℕ
remark_line r = reported_line (remark_word r) r.finding

-- the line of a fault of an LDF text, by its number and name
abbrev pub ldf_line : Location → List ℕ → List ℕ
ldf_line place name =
    line (codes "ldf" ∷ place_word place.line place.column ∷ codes "fault" ∷ name ∷ [])

abbrev pub ldf_text : LdfFault → List ℕ
ldf_text (ldf.BadByte place) = ldf_line place (codes "1 BadByte")
ldf_text (ldf.OpenComment place) = ldf_line place (codes "2 OpenComment")
ldf_text (ldf.OpenText place) = ldf_line place (codes "3 OpenText")
ldf_text (ldf.Unexpected place) = ldf_line place (codes "4 Unexpected")
ldf_text (ldf.NumberTooLarge place) = ldf_line place (codes "5 NumberTooLarge")
ldf_text (ldf.SectionTwice place) = ldf_line place (codes "6 SectionTwice")
ldf_text (ldf.NameTwice place) = ldf_line place (codes "7 NameTwice")
ldf_text ldf.OutOfMemory = line (codes "ldf out of memory" ∷ [])

-- the name of a file before the number of a line
abbrev pub file_text : Option (List ℕ) → List ℕ
file_text None = []
file_text (Some name) = name ++ codes ":"

-- the line of a fault, and the lines of findings; of bad lines of bench scripts and of what they
-- expect all was told while they were played or answered
abbrev pub fault_text : Fault → List ℕ
fault_text (BadLine n) = line (codes "script" ∷ decimal n ∷ codes "bad line" ∷ [])
fault_text (Ldf fault) = ldf_text fault
fault_text (Findings found) = flat_map finding_line found.0
fault_text (Remarks found) = flat_map remark_line found.0
fault_text LdfTooLong = line (codes "ldf too long" ∷ [])
fault_text ScriptTooLong = line (codes "script too long" ∷ [])
fault_text (NotHostStep index) =
    line (codes "script step" ∷ decimal index ∷ codes "not a host step" ∷ [])
fault_text NoSuchTable = line (codes "no such table" ∷ [])
fault_text OutOfMemory = line (codes "out of memory" ∷ [])
fault_text ReadFailed = line (codes "read failed" ∷ [])
fault_text WriteFailed = line (codes "write failed" ∷ [])
fault_text TaskLimit = line (codes "task limit" ∷ [])
fault_text NoThread = line (codes "no thread" ∷ [])
fault_text LogFull = line (codes "log full" ∷ [])
fault_text (LogDiffers n) = line (codes "log" ∷ decimal n ∷ codes "differs" ∷ [])
fault_text (UnusedParameter name) = codes "set " ++ (name ++ codes ": no line uses it\n")
fault_text (SlotLimit p file) =
    codes "script " ++ (file_text file ++ (decimal p.line ++ codes " slot limit\n"))
fault_text (BadBenchLine n told) = []
fault_text (UnreadFile told) = []
fault_text (LongFile told) = []
fault_text (Several status) = []
fault_text BadLines = []
fault_text Differs = []
fault_text (Unmet told) = []
fault_text (BadFaults told) = []
fault_text Denied = []
