use Rattle.std.proofs.Common.{◌∙◌, ap₂, ◌&&◌, ◌||◌}
use Rattle.lin_tool.proofs.campaign.plan.is_denied.Goals as goal

pub returns : goal.returns
returns c = λ js named h.
    let plan = c.args.plan.now in
    c.denies.ensures
    ∙ ap₂ (λ a b. (plan.denies_broken && a) || (plan.denies_never && b)) (c.some_not_tolerated-some_broken.ensures js named h) (c.some_never_broken-some_never.ensures js named h)
