use Rattle.std.proofs.Common.{◌∙◌, ◌∷◌, [], ap, map, refl}
use Rattle.std.specs.Borrow.{Bor}
use Rattle.lin_bench.specs.declared.got.Judgement.{Judgement}
use Rattle.lin_text.proofs.Growing.{grows-nothing}
use Rattle.lin_export.proofs.Puttings.{puts-some}
use Rattle.lin_tool.specs.Junit.{xml_text}
use Rattle.lin_tool.specs.Placing.{placed_missed}
use Rattle.lin_tool.specs.Separated.{with_separators}
use Rattle.lin_tool.specs.campaign.Junit.{failure_lines}
use Rattle.lin_tool.proofs.CampaignChecks.{texts-of}
use Rattle.lin_tool.proofs.CampaignTexts.{same-puts}
use Rattle.lin_tool.proofs.campaign.junit.put_failed.Goals as goal

pub returns-in_err-failed : goal.returns-in_err-failed
returns-in_err-failed g c =
    puts-some (failure_lines c.args.names.script.now c.args.names.files.now c.args.cluster.now c.args.log.now.entries c.args.judgements.now) c.from_residual.ensures.0 refl (grows-nothing c.args.out.now)

pub returns : goal.returns
returns g c =
    let f = λ (j : Judgement). xml_text (placed_missed c.args.names.script.now c.args.names.files.now c.args.cluster.now c.args.log.now.entries j) in
    let same = ap (map (λ (j : Bor Judgement). j.now)) c.as_slice.ensures.value ∙ c.in_ok-failed.ensures in
    same-puts (ap (with_separators [] (10 ∷ [])) (texts-of f _ _ same)) c.put_failures.ensures
