use Rattle.std.proofs.Common.{◌≡◌, ◌*◌, ◌≤◌, ◌∷◌, [], drop, length, map}
use Rattle.std.specs.Borrow.{Bor}
use Rattle.lin_bench.specs.declared.got.Judgement.{Judgement}
use Rattle.lin_tool.specs.Junit.{xml_text}
use Rattle.lin_tool.specs.Placing.{moment_of, past_at, placed_missed}
use Rattle.lin_tool.specs.Separated.{with_separators}
use Rattle.lin_tool.proofs.Remaining.{PutsUpTo}
use Rattle.lin_tool.proofs.campaign.junit.put_failures.Given as goal

abbrev pub invariant-loop-one : goal.invariant-loop-one
invariant-loop-one g l = record {
  put :
      PutsUpTo g.W.Write.contents l.initial.out l.out
      (with_separators [] (10 ∷ []) (map (λ (j : Bor Judgement). xml_text (placed_missed l.names.script.now l.names.files.now l.cluster l.log.entries j.now)) l.failed))
      (with_separators l.mark (10 ∷ [])
      (map (λ (j : Bor Judgement). xml_text (placed_missed l.names.script.now l.names.files.now l.cluster l.log.entries j.now)) (drop l.one-index l.failed)));
  told : l.moment ≡ moment_of l.cluster (past_at l.log.entries l.read);
  time : l.moment.time_us ≤ 1000000000 * l.read;
  count : l.moment.slots ≤ l.read;
  few : l.read ≤ length l.log.entries;
}
