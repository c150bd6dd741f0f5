use Rattle.std.proofs.Common.{◌≡◌, ◌*◌, ◌≤◌}
use Rattle.lin_tool.specs.Placing.{moment_of, past_at}
use Rattle.lin_tool.proofs.placing.Moment.on_to.Given as goal

abbrev pub invariant-loop-index : goal.invariant-loop-index
invariant-loop-index l = record {
  told : l.moment ≡ moment_of l.fn.cluster (past_at l.fn.log.entries l.index);
  time : l.moment.time_us ≤ 1000000000 * l.index;
  count : l.moment.slots ≤ l.index;
  order : l.fn.read ≤ l.index;
}
