use Rattle.std.proofs.Common.{Ok, rules, sym}
use Rattle.lin_text.specs.Written.{WritesText}
use Rattle.lin_text.specs.declared.fault.WriteFailed.{WriteFailed}
use Rattle.lin_text.proofs.Growing.{text-written}
use Rattle.lin_tool.specs.campaign.Written.{text_after_rows}
use Rattle.lin_tool.proofs.CampaignTexts.{writes-flushed}
use Rattle.lin_tool.proofs.campaign.Campaign.write_tail.Goals as goal

pub returns-in_err-finish : goal.returns-in_err-finish
returns-in_err-finish g c =
    let same = sym (c.put_tail.ensures.same) in
    let written = text-written c.new-out.ensures c.put_tail.ensures c.finish.ensures in
    search rules

pub returns : goal.returns
returns g c =
    let same = sym (c.put_tail.ensures.same) in
    let whole = text-written c.new-out.ensures c.put_tail.ensures (rw c.in_ok-finish.was at c.finish.ensures) in
    let there : WritesText {E = WriteFailed} (g.W.Write.contents c.args.writer.now) (g.W.Write.contents c.writer-1.given.0) (Ok tt) (text_after_rows c.args.self.now.format) = search rules in
    writes-flushed there c.flush.ensures
