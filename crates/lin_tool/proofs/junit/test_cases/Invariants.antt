use Rattle.std.proofs.Common.{◌≡◌, ◌*◌, ◌≤◌, take, length}
use Rattle.lin_tool.specs.Junit.{test_cases}
use Rattle.lin_tool.specs.Placing.{moment_of, past_at}
use Rattle.lin_tool.proofs.junit.test_cases.Given as goal

abbrev pub invariant-loop-one : goal.invariant-loop-one
invariant-loop-one l = record {
  cases : l.cases.items ≡ test_cases l.names.script.now l.names.files.now l.cluster l.log.entries 1 l.fn.tests (take l.one-index l.judgements);
  told : l.moment ≡ moment_of l.cluster (past_at l.log.entries l.read);
  time : l.moment.time_us ≤ 1000000000 * l.read;
  count : l.moment.slots ≤ l.read;
  few : l.read ≤ length l.log.entries;
}
