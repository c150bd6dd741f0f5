use Rattle.std.proofs.Common.{◌≡◌, ◌≤◌, take}
use Rattle.std.specs.List.{count_by}
use Rattle.lin_tool.specs.Junit.{is_untested}
use Rattle.lin_tool.proofs.junit.untested.Given as goal

abbrev pub invariant-loop-one : goal.invariant-loop-one
invariant-loop-one l = record {
  count : l.count ≡ count_by is_untested (take l.one-index l.judgements);
  few : l.count ≤ l.one-index;
}
