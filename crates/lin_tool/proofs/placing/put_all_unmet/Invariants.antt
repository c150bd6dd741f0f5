use Rattle.std.proofs.Common.{◌≡◌, ◌*◌, ◌≤◌, take, length, flat_map}
use Rattle.lin_text.specs.Written.{Grows}
use Rattle.lin_tool.specs.Placing.{moment_of, past_at, placed_unmet}
use Rattle.lin_tool.proofs.placing.put_all_unmet.Given as goal

abbrev pub invariant-loop-one : goal.invariant-loop-one
invariant-loop-one g l = record {
  put : Grows g.W.Write.contents l.initial.out l.out (flat_map (placed_unmet l.names.script.now l.names.files.now l.cluster l.log.entries) (take l.one-index l.judgements));
  told : l.moment ≡ moment_of l.cluster (past_at l.log.entries l.read);
  time : l.moment.time_us ≤ 1000000000 * l.read;
  count : l.moment.slots ≤ l.read;
  few : l.read ≤ length l.log.entries;
}
