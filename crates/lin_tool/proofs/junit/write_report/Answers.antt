use Rattle.std.proofs.Common.{◌∙◌, sym, rules}
use Rattle.lin_text.proofs.Growing.{grows-more, text-written}
use Rattle.lin_tool.proofs.junit.write_report.Goals as goal

pub returns : goal.returns
returns g c =
    let same = sym (c.put_text-2.ensures.same ∙ c.put.ensures.same ∙ c.put_text.ensures.same ∙ c.new-out.ensures.same) in
    let written = text-written c.new-out.ensures (grows-more c.put_text.ensures (grows-more c.put.ensures c.put_text-2.ensures)) c.finish.ensures in
    search rules
