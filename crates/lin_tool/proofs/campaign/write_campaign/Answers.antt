use Rattle.std.proofs.Common.{◌≡◌, ◌∙◌, Bool, Option, ap, ap₂, arith, length, refl, ℕ}
use Rattle.std.proofs.lemmas.Result.{err_from_is_err_and}
use Rattle.lin_tool.specs.campaign.Singles.{singles}
use Rattle.lin_tool.specs.declared.campaign.rows.RandomSets.{RandomSets}
use Rattle.lin_tool.specs.declared.campaign.rows.Rows.{Rows}
use Rattle.lin_tool.proofs.CampaignEnds.{campaign-unwritten, planned}
use Rattle.lin_tool.proofs.campaign.write_campaign.Goals as goal

abbrev rows-of : Bool → Option RandomSets → ℕ → Rows
rows-of pairs random count = record { singles = count; pairs = pairs; random = random }

pub returns-in_err-singles : goal.returns-in_err-singles
returns-in_err-singles g c = λ ls is.
    let p = err_from_is_err_and c.from_residual.result c.from_residual.ensures.1 in
    let silent = g.E.Write.contents c.args.errors.now in
    rw (p.1, p.2)
    (campaign-unwritten c.args.campaign.now c.args.plan.now c.args.calm ls c.args.plan.now.is_watched (g.W.Write.contents c.args.writer.now) silent silent c.requires.part is)

pub returns : goal.returns
returns g c = λ ls is.
    let plan = c.args.plan.now in
    let are = c.as_slice.ensures.value ∙ c.in_ok-singles.ensures.all ∙ ap₂ (λ k l. singles k plan.kinds l) c.cluster.ensures c.log.ensures.entries in
    let many : c.len.result ≡ length c.as_slice.result.now = let same = ap length c.as_slice.ensures.value in omega (arith, same) in
    c.write_table.ensures ls (planned c.args.campaign.now plan c.args.calm _ ls is refl c.as_slice-2.ensures refl are (ap (rows-of plan.pairs plan.random) many))
