use Rattle.std.proofs.Common.{◌≡◌, ℕ, List, []}
use Rattle.lin_parts.specs.declared.parts.Parts.{Parts}
use Rattle.lin_core.specs.declared.log.LogEntry.{LogEntry}
use Rattle.lin_bench.specs.declared.files.ScriptFile.{ScriptFile}
use Rattle.lin_tool.specs.Junit.{test_cases}
use Rattle.lin_tool.proofs.junit.no_checks.Given as goal

abbrev pub invariant-loop : goal.invariant-loop
invariant-loop l = (file : List ℕ) (fs : List ScriptFile) (c : Parts) (log : List LogEntry) → l.cases.items ≡ test_cases file fs c log 1 l.counter []
