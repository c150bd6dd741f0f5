use Rattle.std.proofs.Common.{◌∙◌, ap}
use Rattle.lin_text.proofs.Growing.{grows-more, same-growth}
use Rattle.lin_tool.specs.campaign.Summary.{RowCountsData}
use Rattle.lin_tool.proofs.CampaignSums.{line-text}
use Rattle.lin_tool.proofs.campaign.summary.RowCounts.put_count.Goals as goal

pub returns : goal.returns
returns g c = λ rows is all.
    let put =
    grows-more c.put_text.ensures
    (grows-more c.put_numbered.ensures
    (grows-more c.put_text-2.ensures
    (grows-more c.put_number.ensures
    (grows-more c.put_text-3.ensures
    (grows-more c.put_number-2.ensures
    (grows-more (c.put_expectation.ensures c.args.line is.judgement) (grows-more (same-growth c.mark.ensures c.put_text-4.ensures) c.put_byte.ensures))))))) in
    same-growth (line-text c.args.script.name.now c.args.script.cluster.now c.args.script.judgements.now rows c.args.line c.args.one c.self.inside.rows is (ap (λ (a : RowCountsData). a.rows) c.self.view_is ∙ all)) put
