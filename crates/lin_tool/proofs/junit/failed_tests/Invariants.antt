use Rattle.std.proofs.Common.{◌≡◌, ◌≤◌, take}
use Rattle.std.specs.List.{count_by}
use Rattle.lin_tool.specs.Junit.{has_failed}
use Rattle.lin_tool.proofs.junit.failed_tests.Given as goal

abbrev pub invariant-loop-case : goal.invariant-loop-case
invariant-loop-case l = record {
  count : l.count ≡ count_by has_failed (take l.case-index l.cases);
  few : l.count ≤ l.case-index;
}
