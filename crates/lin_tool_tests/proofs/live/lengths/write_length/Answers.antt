use Rattle.std.proofs.Common.{◌∙◌, sym, rules}
use Rattle.lin_text.proofs.Growing.{grows-more, text-written}
use Rattle.lin_tool_tests.proofs.live.lengths.write_length.Goals as goal

pub returns : goal.returns
returns g c =
    let same = sym (c.put_byte.ensures.same ∙ c.put_length.ensures.same ∙ c.new-out.ensures.same) in
    let written = text-written c.new-out.ensures (grows-more c.put_length.ensures c.put_byte.ensures) c.finish.ensures in
    search rules
