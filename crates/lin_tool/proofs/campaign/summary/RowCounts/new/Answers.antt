use Rattle.std.proofs.Common.{◌≡◌, ◌==◌, if◌then◌else◌, ap, arith, subst}
use Rattle.lin_bench.specs.declared.got.Judgement.{Judgement}
use Rattle.lin_tool.specs.campaign.Summary.{first_at, line_at}
use Rattle.lin_tool.proofs.CampaignCounts.{first-next-at}
use Rattle.lin_tool.proofs.campaign.summary.RowCounts.new.Goals as goal

pub loop-place-preserved : goal.loop-place-preserved
loop-place-preserved c = record {
  same = λ n. first-next-at n c.loop-place.place c.args.judgements.now c.index-judgements-place.result _ _ (omega arith)
      (subst
      (λ l. line_at c.add_judgement.new.lines.items n ≡ (if n == l then first_at c.loop-place.place (line_at c.loop-place.lines.items n) else line_at c.loop-place.lines.items n))
      (ap (λ (j : Judgement). j.place.own) c.index-judgements-place.is) (c.in_ok-add_judgement.ensures.same n)) (c.loop-place.invariant.same n);
  counts = λ rows. c.add_judgement.ensures.counts rows (c.loop-place.invariant.counts rows);
}

pub invariant_of-result : goal.invariant_of-result
invariant_of-result c = record {
  tolerated = omega arith;
  broken = omega arith;
  limited = omega arith;
  missed = omega arith;
  lines = c.loop-place.invariant.counts 0;
}
