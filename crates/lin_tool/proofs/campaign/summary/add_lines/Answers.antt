use Rattle.std.proofs.Common.{◌∙◌, ap, subst, sym}
use Rattle.std.specs.Prelude.{All}
use Rattle.lin_tool.specs.campaign.Summary.{IsLineCount, line_at}
use Rattle.lin_tool.proofs.CampaignCounts.{at-push, counts-push}
use Rattle.lin_tool.proofs.campaign.summary.add_lines.Goals as goal

pub loop-lines-preserved : goal.loop-lines-preserved
loop-lines-preserved c =
    let items = c.loop-lines.lines.items in
    let pushed = c.in_ok-push.ensures.items in
    record {
      same = λ n. ap (λ l. line_at l n) pushed ∙ at-push items n ∙ c.loop-lines.invariant.same n;
      counts = λ rows h. subst (λ l. All (IsLineCount rows) l) (sym pushed) (counts-push rows items (c.loop-lines.invariant.counts rows h));
    }

pub returns-in_err-push-clause-counts : goal.returns-in_err-push-clause-counts
returns-in_err-push-clause-counts c = λ rows h.
    subst (λ l. All (IsLineCount rows) l) (sym c.in_err-push.ensures.items) (c.loop-lines.invariant.counts rows h)
