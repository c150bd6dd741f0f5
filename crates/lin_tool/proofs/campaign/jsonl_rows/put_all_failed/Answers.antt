use Rattle.std.proofs.Common.{◌∙◌, ap, map, refl}
use Rattle.std.specs.Borrow.{Bor}
use Rattle.lin_bench.specs.declared.got.Judgement.{Judgement}
use Rattle.lin_text.proofs.Growing.{grows-nothing}
use Rattle.lin_export.specs.Json.{with_commas}
use Rattle.lin_export.proofs.Puttings.{puts-some}
use Rattle.lin_tool.specs.campaign.Jsonl.{failure_object, failure_objects}
use Rattle.lin_tool.proofs.CampaignChecks.{texts-of}
use Rattle.lin_tool.proofs.CampaignTexts.{same-puts}
use Rattle.lin_tool.proofs.campaign.jsonl_rows.put_all_failed.Goals as goal

pub returns-in_err-failed : goal.returns-in_err-failed
returns-in_err-failed g c = puts-some (with_commas (failure_objects c.args.cluster.now c.args.judgements.now)) c.from_residual.ensures.0 refl (grows-nothing c.args.out.now)

pub returns : goal.returns
returns g c =
    let same = ap (map (λ (j : Bor Judgement). j.now)) c.as_slice.ensures.value ∙ c.in_ok-failed.ensures in
    same-puts (ap with_commas (texts-of (failure_object c.args.cluster.now) _ _ same)) c.put_failures.ensures
