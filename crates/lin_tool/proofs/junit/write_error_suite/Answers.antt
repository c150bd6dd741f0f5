use Rattle.std.proofs.Common.{◌∙◌, sym, rules}
use Rattle.lin_text.proofs.Growing.{text-written}
use Rattle.lin_tool.proofs.junit.write_error_suite.Goals as goal

pub returns : goal.returns
returns g c =
    let same = sym (c.put_error.ensures.same ∙ c.new-out.ensures.same) in
    let written = text-written c.new-out.ensures c.put_error.ensures c.finish.ensures in
    search rules
