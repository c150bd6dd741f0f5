-- A log with names, which is a bench script of the log's steps.
use Rattle.std.proofs.Common.{inr}
use Rattle.lin_core.specs.Runs.{steps_of}
use Rattle.lin_log.specs.Language.{named_language}
use Rattle.lin_log.proofs.Texts.{texts-again}
use Rattle.lin_export.specs.Named.{named_log, reply_lines}
use Rattle.lin_bench.proofs.Steps.{named-texts}
use Rattle.lin_tool.specs.laws.NamedScripts.{NamedLogs}

pub named-logs : NamedLogs
named-logs c k log opening capacity a plain fits =
    named-texts c opening capacity (named_log c k log) (steps_of log) (inr plain) (texts-again (named_language c) (reply_lines c k) log a fits)
