use Rattle.std.proofs.Common.{◌≡◌, ◌*◌, ◌≤◌, take, length, flat_map}
use Rattle.lin_text.specs.Written.{Grows}
use Rattle.lin_tool.specs.Page.{unmet_data_line}
use Rattle.lin_tool.specs.Placing.{moment_of, past_at}
use Rattle.lin_tool.proofs.page.unmet.put_unmet_lines.Given as goal

abbrev pub invariant-loop-one : goal.invariant-loop-one
invariant-loop-one g l = record {
  put : Grows g.W.Write.contents l.initial.out l.out (flat_map (unmet_data_line l.shown.script l.shown.files.now l.cluster l.log.entries) (take l.one-index l.shown.judgements.now));
  told : l.moment ≡ moment_of l.cluster (past_at l.log.entries l.read);
  time : l.moment.time_us ≤ 1000000000 * l.read;
  count : l.moment.slots ≤ l.read;
  few : l.read ≤ length l.log.entries;
}
