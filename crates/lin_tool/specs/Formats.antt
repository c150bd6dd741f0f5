-- What is written of a log in each format.
use Rattle.std.specs.Prelude.{◌≡◌, ℕ, List, ◌++◌, Option}
use Rattle.std.specs.Borrow.{Bor}
use Rattle.std.specs.Io.KnownBytes.{Appends}
use Rattle.lin_parts.specs.declared.parts.Parts.{Parts}
use Rattle.lin_core.specs.Core.{CoreData}
use Rattle.lin_core.specs.declared.log.LogEntry.{LogEntry}
use Rattle.lin_log.specs.Words.{text}
use Rattle.lin_bench.specs.declared.files.ScriptFile.{ScriptFile}
use Rattle.lin_bench.specs.declared.got.Judgement.{Judgement}
use Rattle.lin_bench.specs.declared.tests.TestName.{TestName}
use Rattle.lin_export.specs.Csv.{csv}
use Rattle.lin_export.specs.Named.{named_log}
use Rattle.lin_export.specs.Pcap.{pcap}
use Rattle.lin_export.specs.Vcd.{vcd}
use Rattle.lin_export.specs.WhereTold.{given_coding}
use Rattle.lin_export.specs.declared.fault.ExportFault.{ExportFault}
use Rattle.lin_export.specs.declared.fault.ExportFault.TheVariants as export
use Rattle.lin_tool.specs.Page.{page}
use Rattle.lin_values.specs.Coded.{CodedData}
use Rattle.lin_tool.specs.Junit.{junit}
use Rattle.lin_tool.specs.Objects.{objects}
use Rattle.lin_tool.specs.declared.fault.Fault.{Fault}
use Rattle.lin_tool.specs.declared.fault.Fault.TheVariants.{OutOfMemory, WriteFailed}
use Rattle.lin_tool.specs.declared.formats.Format.{Format}
use Rattle.lin_tool.specs.declared.formats.Shown.{Shown}
use Rattle.lin_tool.specs.declared.formats.Format.TheVariants.{Log, Named, Csv, Jsonl, Pcap}
use Rattle.lin_tool.specs.declared.formats.Format.TheVariants.{Vcd, Html, Junit}

-- a log in a format, of a run that opened with this table and this capacity of the queues; objects, a
-- picture and a report also have the judgements of a play, objects and a report its tests, by their places in
-- its files, a picture as they are told of a script whose file has this name, and the log with names, a table, objects, a dump and a picture what signals mean,
-- where that is told
abbrev pub log_in_format : Format → Option (Bor (List ℕ)) → List ScriptFile → Parts → Option CodedData → ℕ → ℕ
    → List LogEntry → List TestName → List Judgement → List ℕ
log_in_format Log named fs c k opening capacity log ts js = text log
log_in_format Named named fs c k opening capacity log ts js = named_log c k log
log_in_format Csv named fs c k opening capacity log ts js = csv c k log
log_in_format (Jsonl script) named fs c k opening capacity log ts js =
    objects c k opening capacity script.now fs log ts js
log_in_format Pcap named fs c k opening capacity log ts js = pcap c log
log_in_format Vcd named fs c k opening capacity log ts js = vcd c k log
log_in_format (Html file) named fs c k opening capacity log ts js = page named fs c k file.now log js
log_in_format (Junit file) named fs c k opening capacity log ts js = junit file.now fs c log ts js

-- the log of a core as it is to be shown
abbrev pub shown_log : Shown → CoreData → List ℕ
shown_log s core =
    log_in_format s.format s.script s.files.now core.cluster (given_coding s.coded) s.table s.capacity core.log s.tests.now
    s.judgements.now

-- a beginning of a text was written
abbrev pub Begins : Option (List ℕ) → Option (List ℕ) → List ℕ → Type 0
Begins old new whole = (part rest : List ℕ) × (whole ≡ part ++ rest) × Appends old new part

-- the program's fault for one of an export
abbrev pub export_fault : ExportFault → Fault
export_fault export.OutOfMemory = OutOfMemory
export_fault export.WriteFailed = WriteFailed
