-- The status of a call, and its report, by how the call ended.
use Rattle.std.specs.Prelude.{◌≡◌, ℕ, Result, Ok, Err}
use Rattle.lin_parts.specs.declared.place.Location.{Location}
use Rattle.lin_ldf.specs.declared.fault.LdfFault.{LdfFault}
use Rattle.lin_ldf.specs.declared.fault.LdfFault.TheVariants.{BadByte, OpenComment, OpenText}
use Rattle.lin_ldf.specs.declared.fault.LdfFault.TheVariants.{Unexpected, NumberTooLarge}
use Rattle.lin_ldf.specs.declared.fault.LdfFault.TheVariants.{SectionTwice, NameTwice}
use Rattle.lin_ldf.specs.declared.fault.LdfFault.TheVariants as ldf
use Rattle.linsim_c.specs.declared.fault.Fault.{Fault}
use Rattle.linsim_c.specs.declared.fault.Fault.TheVariants.{UnknownFlags, BadCapacity, Ldf}
use Rattle.linsim_c.specs.declared.fault.Fault.TheVariants.{LdfTooLong}
use Rattle.linsim_c.specs.declared.fault.Fault.TheVariants.{NoSuchTable, ScriptTooLong, BadLine}
use Rattle.linsim_c.specs.declared.fault.Fault.TheVariants.{NoRoom, OutOfMemory, LogFull, Untold}
use Rattle.linsim_c.specs.declared.fault.Fault.TheVariants.{IsOpen, IsClosed, BadSize, UnknownFormat}
use Rattle.linsim_c.specs.declared.fault.Fault.TheVariants as fault
use Rattle.linsim_c.specs.declared.fault.Report.{Report}
use Rattle.linsim_c.specs.declared.written_text.Told.{Told}

-- a call ends with the text that it wrote, or with a fault
abbrev pub CallResult : Type 0
CallResult = Result Told Fault

abbrev pub status_of : CallResult → ℕ
status_of (Ok text) = 0
status_of (Err UnknownFlags) = 1
status_of (Err BadCapacity) = 2
status_of (Err LdfTooLong) = 3
status_of (Err (Ldf f)) = 3
status_of (Err (fault.Finding f)) = 4
status_of (Err NoSuchTable) = 5
status_of (Err ScriptTooLong) = 6
status_of (Err (BadLine line)) = 7
status_of (Err (NoRoom text)) = 8
status_of (Err OutOfMemory) = 9
status_of (Err LogFull) = 10
status_of (Err Untold) = 11
status_of (Err IsOpen) = 12
status_of (Err IsClosed) = 13
status_of (Err BadSize) = 14
status_of (Err UnknownFormat) = 15

-- the numbers of an LDF text's faults
abbrev pub fault_number : LdfFault → ℕ
fault_number (BadByte at) = 1
fault_number (OpenComment at) = 2
fault_number (OpenText at) = 3
fault_number (Unexpected at) = 4
fault_number (NumberTooLarge at) = 5
fault_number (SectionTwice at) = 6
fault_number (NameTwice at) = 7
fault_number ldf.OutOfMemory = 0

abbrev pub fault_place : LdfFault → Location
fault_place (BadByte at) = at
fault_place (OpenComment at) = at
fault_place (OpenText at) = at
fault_place (Unexpected at) = at
fault_place (NumberTooLarge at) = at
fault_place (SectionTwice at) = at
fault_place (NameTwice at) = at
fault_place ldf.OutOfMemory = record { line = 0; column = 0 }

-- a report of a text, of a place, or of nothing
abbrev pub of_text : Told → Report
of_text text = record { length = text.length; line = 0; column = 0; number = text.number }

abbrev pub report_at : ℕ → ℕ → ℕ → Report
report_at line column number = record { length = 0; line = line; column = column; number = number }

abbrev pub empty_report : Report
empty_report = record { length = 0; line = 0; column = 0; number = 0 }

abbrev pub report_of : CallResult → Report
report_of (Ok text) = of_text text
report_of (Err (NoRoom text)) = of_text text
report_of (Err (BadLine line)) = report_at line 0 0
report_of (Err (Ldf f)) = report_at (fault_place f).line (fault_place f).column (fault_number f)
report_of (Err (fault.Finding f)) = report_at f.line f.column f.number
report_of (Err UnknownFlags) = empty_report
report_of (Err BadCapacity) = empty_report
report_of (Err LdfTooLong) = empty_report
report_of (Err NoSuchTable) = empty_report
report_of (Err ScriptTooLong) = empty_report
report_of (Err OutOfMemory) = empty_report
report_of (Err LogFull) = empty_report
report_of (Err Untold) = empty_report
report_of (Err IsOpen) = empty_report
report_of (Err IsClosed) = empty_report
report_of (Err BadSize) = empty_report
report_of (Err UnknownFormat) = empty_report

-- how a call ended, of which the facts hold that this says
pub record IsCall (facts : CallResult → Type 0) (status : ℕ) (report : Report) : Type 0 where
  pub answer : CallResult
  pub ended : facts answer
  pub status_is : status ≡ status_of answer
  pub report_is : report ≡ report_of answer
