use Rattle.std.proofs.Common.{◌∙◌, ◌==◌, ap, not}
use Rattle.std.specs.List.{list_all}
use Rattle.lin_bench.specs.declared.got.Judgement.{Judgement}
use Rattle.lin_tool.specs.campaign.Summary.{breaks, line_at, rows_of}
use Rattle.lin_tool.proofs.CampaignCounts.{any-same, none-counted}
use Rattle.lin_tool.proofs.campaign.summary.RowCounts.some_never_broken.Goals as goal

pub returns : goal.returns
returns c = λ js rows h.
    c.some_uncounted.ensures
    ∙ any-same (λ (j : Judgement). (line_at c.args.self.now.lines j.place.own).broken == 0) (λ (j : Judgement). list_all (λ r. not (breaks j.place.own r)) (rows_of rows)) c.args.judgements.now
    (λ j. ap (λ k. k == 0) (h.lines j.place.own).broken ∙ none-counted (breaks j.place.own) (rows_of rows))
