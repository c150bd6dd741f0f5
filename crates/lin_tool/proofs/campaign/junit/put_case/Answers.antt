use Rattle.std.proofs.Common.{◌∙◌, ap, refl}
use Rattle.lin_text.proofs.Growing.{grows-nothing, same-growth}
use Rattle.lin_export.proofs.Puttings.{puts-some}
use Rattle.lin_tool.specs.Junit.{xml_text}
use Rattle.lin_tool.specs.campaign.Junit.{case_text}
use Rattle.lin_tool.specs.campaign.Shown.{row_data}
use Rattle.lin_tool.proofs.CampaignTexts.{puts-behind}
use Rattle.lin_tool.proofs.campaign.junit.put_case.Goals as goal

pub returns-in_err-name : goal.returns-in_err-name
returns-in_err-name g c =
    puts-some (case_text c.args.names.script.now c.args.names.files.now c.args.shown.now.core.now.cluster (row_data c.args.shown.now)) c.from_residual.ensures.0 refl (grows-nothing c.args.out.now)

pub returns : goal.returns
returns g c =
    puts-behind c.put_text.ensures
    (puts-behind (rw c.as_bytes.ensures.value at c.put_escaped.ensures)
    (puts-behind c.put_text-2.ensures
    (puts-behind (same-growth (ap xml_text (c.as_slice.ensures.value ∙ (rw c.cluster.ensures at c.in_ok-name.ensures))) c.put_escaped-2.ensures)
    (puts-behind c.put_byte.ensures c.put_end.ensures))))
