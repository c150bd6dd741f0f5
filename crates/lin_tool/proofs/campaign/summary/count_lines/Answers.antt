use Rattle.std.proofs.Common.{arith, get_or, sym}
use Rattle.std.proofs.lemmas.Grind.{get_or_default_zero}
use Rattle.lin_tool.specs.campaign.Summary.{line_at}
use Rattle.lin_tool.proofs.CampaignCounts.{next-line}
use Rattle.lin_tool.proofs.campaign.summary.count_lines.Goals as goal

pub loop-line-preserved : goal.loop-line-preserved
loop-line-preserved c =
    let broken = c.args.broken.now in
    let i = c.loop-line.line-index in
    let line = get_or broken i 0 in
    record {
      same = λ n. next-line c.args.row n line i broken (line_at c.args.lines.now.items n) _ _ (sym (get_or_default_zero broken i line (omega arith))) (omega arith)
          (c.in_ok-count_line.ensures.same n) (c.loop-line.invariant.same n);
      counts = c.count_line.ensures.counts;
    }
