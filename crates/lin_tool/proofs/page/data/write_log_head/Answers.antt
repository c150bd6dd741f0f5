use Rattle.std.proofs.Common.{sym, ◌∙◌, rules}
use Rattle.lin_text.proofs.Growing.{grows-more, text-written}
use Rattle.lin_tool.proofs.page.data.write_log_head.Goals as goal

pub returns : goal.returns
returns g c =
    let put = grows-more c.put_all_alone.ensures (grows-more c.put_coded.ensures c.put_text.ensures) in
    let same = sym (put.same ∙ c.new-out.ensures.same) in
    let written = text-written c.new-out.ensures put c.finish.ensures in
    search rules
