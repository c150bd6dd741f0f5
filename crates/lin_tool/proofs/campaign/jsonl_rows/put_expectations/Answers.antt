use Rattle.std.proofs.Common.{◌∙◌, ap, map, refl}
use Rattle.std.specs.Borrow.{Bor}
use Rattle.lin_bench.specs.declared.got.Judgement.{Judgement}
use Rattle.lin_text.proofs.Growing.{grows-nothing}
use Rattle.lin_export.specs.Json.{with_commas}
use Rattle.lin_export.proofs.Puttings.{puts-some}
use Rattle.lin_tool.specs.campaign.Jsonl.{expectation, expectation_objects}
use Rattle.lin_tool.proofs.CampaignChecks.{texts-of}
use Rattle.lin_tool.proofs.CampaignTexts.{same-puts}
use Rattle.lin_tool.proofs.campaign.jsonl_rows.put_expectations.Goals as goal

pub returns-in_err-checks : goal.returns-in_err-checks
returns-in_err-checks g c = puts-some (with_commas (expectation_objects c.args.cluster.now c.args.log.now.entries c.args.judgements.now)) c.from_residual.ensures.0 refl (grows-nothing c.args.out.now)

pub returns : goal.returns
returns g c =
    let same = ap (map (λ (j : Bor Judgement). j.now)) c.as_slice.ensures.value ∙ c.in_ok-checks.ensures in
    same-puts (ap with_commas (texts-of (expectation c.args.cluster.now c.args.log.now.entries) _ _ same)) c.put_checks.ensures
