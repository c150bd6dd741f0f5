use Rattle.std.proofs.Common.{◌∙◌, ◌||◌, ap₂, ltb, sym}
use Rattle.lin_tool.specs.campaign.Summary.{rows_of}
use Rattle.lin_tool.proofs.CampaignCounts.{some-not-tolerated}
use Rattle.lin_tool.proofs.campaign.summary.RowCounts.some_not_tolerated.Goals as goal

pub returns : goal.returns
returns c = λ js rows h.
    let are = rw (← c.self.view_is) at h in
    c.either.ensures ∙ ap₂ (λ m n. ltb 0 m || ltb 0 n) are.broken are.limited ∙ sym (some-not-tolerated (rows_of rows))
