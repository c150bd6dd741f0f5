use Rattle.std.proofs.Common.{◌≡◌, ◌++◌, drop}
use Rattle.std.specs.List.{filter_map}
use Rattle.lin_bench.specs.Tests.{AreNumbered, name_begun, numbered_after, test_names}
use Rattle.lin_bench.specs.declared.line.ScriptLine.{ScriptLine}
use Rattle.lin_bench.specs.declared.place.LinePlace.{LinePlace}
use Rattle.lin_bench.proofs.NumberedTests.{names_of}
use Rattle.lin_bench.proofs.tests.test_names.Given as goal

-- the tests so far, and those of the lines that are left
abbrev pub invariant-loop-line : goal.invariant-loop-line
invariant-loop-line l = record {
  same : l.names.items ++ numbered_after (names_of l.names.items) (filter_map (λ (x : LinePlace × ScriptLine). name_begun x.1) (drop l.line-index l.lines)) ≡ test_names l.lines;
  numbered : AreNumbered l.names.items;
}
