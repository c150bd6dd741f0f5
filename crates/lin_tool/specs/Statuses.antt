-- The exit status that the program ends with.
use Rattle.std.specs.Prelude.{ℕ, ◌==◌, ◌&&◌, ◌||◌, not, nat_lt, if◌then◌else◌, Result, Ok, Err}
use Rattle.lin_tool.specs.declared.fault.Fault.{Fault}
use Rattle.lin_tool.specs.declared.fault.Fault.TheVariants.{BadLine, Ldf, Findings, LdfTooLong}
use Rattle.lin_tool.specs.declared.fault.Fault.TheVariants.{ScriptTooLong, NotHostStep, NoSuchTable}
use Rattle.lin_tool.specs.declared.fault.Fault.TheVariants.{OutOfMemory, ReadFailed, WriteFailed}
use Rattle.lin_tool.specs.declared.fault.Fault.TheVariants.{TaskLimit, NoThread, LogFull}
use Rattle.lin_tool.specs.declared.fault.Fault.TheVariants.{LogDiffers, BadBenchLine, SlotLimit, UnusedParameter}
use Rattle.lin_tool.specs.declared.fault.Fault.TheVariants.{BadLines, Differs, Unmet, Remarks}
use Rattle.lin_tool.specs.declared.fault.Fault.TheVariants.{BadFaults, Denied, UnreadFile, LongFile, Several}

-- 1 for a fault of the input, 3 for lack of memory, 4 where standard input, a file or standard
-- output failed, 5 where a run met a limit, 6 where a log isn't the text of its own history, two LDFs
-- differ, an expectation failed, each fault of a bench script changed no slot or a campaign has a
-- denied result
abbrev pub exit_status : Fault → ℕ
exit_status (BadLine n) = 1
exit_status (Ldf f) = 1
exit_status (Findings f) = 1
exit_status (Remarks f) = 1
exit_status LdfTooLong = 1
exit_status ScriptTooLong = 1
exit_status (NotHostStep n) = 1
exit_status NoSuchTable = 1
exit_status (BadBenchLine n told) = 1
exit_status BadLines = 1
exit_status (UnusedParameter name) = 1
exit_status (SlotLimit n file) = 1
exit_status (LongFile told) = 1
exit_status (BadFaults told) = 1
exit_status OutOfMemory = 3
exit_status ReadFailed = 4
exit_status (UnreadFile told) = 4
exit_status WriteFailed = 4
exit_status TaskLimit = 5
exit_status NoThread = 5
exit_status LogFull = 5
exit_status (LogDiffers line) = 6
exit_status Differs = 6
exit_status (Unmet told) = 6
exit_status Denied = 6
exit_status (Several status) = status

-- the smaller one of two exit statuses that isn't 0
abbrev pub least_status : ℕ → ℕ → ℕ
least_status m n = if m == 0 || not (n == 0) && nat_lt n m then n else m

-- the exit status of a run that ended so: 0 where it did all that was asked for
abbrev pub end_status : Result Unit Fault → ℕ
end_status (Ok done) = 0
end_status (Err fault) = exit_status fault
