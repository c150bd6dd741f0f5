use Rattle.std.proofs.Common.{◌∙◌, refl}
use Rattle.lin_text.proofs.Growing.{grows-nothing}
use Rattle.lin_export.proofs.Puttings.{puts-all, puts-some}
use Rattle.lin_tool.specs.campaign.Jsonl.{row_object}
use Rattle.lin_tool.specs.campaign.Page.{in_page}
use Rattle.lin_tool.specs.campaign.Shown.{row_data}
use Rattle.lin_tool.proofs.campaign.jsonl_rows.put_line.Goals as goal

pub returns-in_err-text : goal.returns-in_err-text
returns-in_err-text g c =
    puts-some (in_page c.args.is_page (row_object c.args.shown.now.core.now.cluster (row_data c.args.shown.now))) c.from_residual.ensures.0 refl (grows-nothing c.args.out.now)

pub returns-in_ok-text : goal.returns-in_ok-text
returns-in_ok-text g c = rw c.if-is_page.true (puts-all refl (rw (c.as_slice.ensures.value ∙ c.in_ok-text.ensures) at c.put_object_text.ensures))

pub returns-else-is_page : goal.returns-else-is_page
returns-else-is_page g c = rw c.if-is_page.false c.put_row.ensures
