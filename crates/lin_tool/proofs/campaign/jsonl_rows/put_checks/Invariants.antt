use Rattle.std.proofs.Common.{◌≡◌, ◌*◌, ◌≤◌, drop, length, map}
use Rattle.std.specs.Prelude.{codes}
use Rattle.std.specs.Borrow.{Bor}
use Rattle.lin_bench.specs.declared.got.Judgement.{Judgement}
use Rattle.lin_export.specs.Json.{with_commas}
use Rattle.lin_tool.specs.Placing.{moment_of, past_at}
use Rattle.lin_tool.specs.campaign.Jsonl.{expectation}
use Rattle.lin_tool.specs.Separated.{with_separators}
use Rattle.lin_tool.proofs.Remaining.{PutsUpTo}
use Rattle.lin_tool.proofs.campaign.jsonl_rows.put_checks.Given as goal

abbrev pub invariant-loop-one : goal.invariant-loop-one
invariant-loop-one g l = record {
  put :
      PutsUpTo g.W.Write.contents l.initial.out l.out (with_commas (map (λ (j : Bor Judgement). expectation l.cluster l.log.entries j.now) l.checks))
      (with_separators l.mark (codes ",") (map (λ (j : Bor Judgement). expectation l.cluster l.log.entries j.now) (drop l.one-index l.checks)));
  told : l.moment ≡ moment_of l.cluster (past_at l.log.entries l.read);
  time : l.moment.time_us ≤ 1000000000 * l.read;
  count : l.moment.slots ≤ l.read;
  few : l.read ≤ length l.log.entries;
}
