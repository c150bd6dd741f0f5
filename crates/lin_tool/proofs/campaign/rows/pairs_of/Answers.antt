use Rattle.std.proofs.Common.{◌≡◌, ◌∙◌, ◌*◌, ◌/◌, ◌-◌, ap, arith, sym}
use Rattle.lin_tool.proofs.CampaignRows.{length-pairs}
use Rattle.lin_tool.proofs.campaign.rows.pairs_of.Goals as goal

pub returns-clause-count : goal.returns-clause-count
returns-clause-count c =
    let n = c.args.singles in
    let less : c.saturating_sub.result ≡ n - 1 = omega (arith, c.saturating_sub.ensures) in
    ap (λ m. n * m / 2) less ∙ sym (length-pairs n)
