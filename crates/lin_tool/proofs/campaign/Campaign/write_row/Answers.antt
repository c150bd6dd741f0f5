use Rattle.std.proofs.Common.{Ok, rules}
use Rattle.lin_export.specs.declared.fault.ExportFault.{ExportFault}
use Rattle.lin_text.specs.Written.{WritesText}
use Rattle.lin_text.proofs.Growing.{grows-nothing}
use Rattle.lin_export.proofs.Puttings.{same-writer, written-part, written-whole}
use Rattle.lin_tool.specs.campaign.Shown.{row_data}
use Rattle.lin_tool.specs.campaign.Text.{known_losses, known_refusals}
use Rattle.lin_tool.specs.campaign.Written.{row_as}
use Rattle.lin_tool.proofs.CampaignTexts.{dropped, writes-kept, writes-unflushed}
use Rattle.lin_tool.proofs.campaign.Campaign.write_row.Goals as goal

pub returns-in_err-put : goal.returns-in_err-put
returns-in_err-put g c =
    let same = same-writer g.W.Write.contents _ _ _ _ _ _ _ c.new-out.ensures (grows-nothing _) c.put_row-put.ensures in
    let written = dropped c.from_residual.ensures.0 c.new-out.ensures c.put_row-put.ensures in
    search rules

pub returns-in_err-finish : goal.returns-in_err-finish
returns-in_err-finish g c =
    let same = same-writer g.W.Write.contents _ _ _ _ _ _ _ c.new-out.ensures (grows-nothing _) c.put_row-put.ensures in
    let written =
    written-part g.W.Write.contents _ _ _ _ _ _ _ _ _ _ c.from_residual-in_err-finish.ensures.0 c.new-out.ensures (grows-nothing _) c.put_row-put.ensures c.finish.ensures in
    search rules

pub returns-in_err-flush : goal.returns-in_err-flush
returns-in_err-flush g c =
    let same = same-writer g.W.Write.contents _ _ _ _ _ _ _ c.new-out.ensures (grows-nothing _) c.put_row-put.ensures in
    let whole =
    written-whole ExportFault _ g.W.Write.contents _ _ _ _ _ _ _ c.new-out.ensures (grows-nothing _) (rw c.in_ok-put.was at c.put_row-put.ensures)
    (rw c.in_ok-finish.was at c.finish.ensures) in
    let there : WritesText {E = ExportFault} (g.W.Write.contents c.args.writer.now) (g.W.Write.contents c.writer-2-1.given.0) (Ok tt)
    (row_as c.args.self.now.format c.args.self.now.script.now c.args.self.now.source.files.now c.args.shown.now.core.now.cluster (known_losses c.args.calm) (known_refusals c.args.calm) (row_data c.args.shown.now)) = search rules in
    writes-unflushed c.from_residual-in_err-flush.ensures.0 there c.flush.ensures

pub returns : goal.returns
returns g c =
    let same = same-writer g.W.Write.contents _ _ _ _ _ _ _ c.new-out.ensures (grows-nothing _) c.put_row-put.ensures in
    let whole =
    written-whole ExportFault _ g.W.Write.contents _ _ _ _ _ _ _ c.new-out.ensures (grows-nothing _) (rw c.in_ok-put.was at c.put_row-put.ensures)
    (rw c.in_ok-finish.was at c.finish.ensures) in
    let there : WritesText {E = ExportFault} (g.W.Write.contents c.args.writer.now) (g.W.Write.contents c.writer-2-1.given.0) (Ok tt)
    (row_as c.args.self.now.format c.args.self.now.script.now c.args.self.now.source.files.now c.args.shown.now.core.now.cluster (known_losses c.args.calm) (known_refusals c.args.calm) (row_data c.args.shown.now)) = search rules in
    writes-kept there c.flush.ensures
