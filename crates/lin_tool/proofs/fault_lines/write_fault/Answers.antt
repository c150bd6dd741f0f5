use Rattle.std.proofs.Common.{sym, ◌∙◌, rules}
use Rattle.lin_text.proofs.Growing.{text-written}
use Rattle.lin_tool.proofs.fault_lines.write_fault.Goals as goal

pub returns : goal.returns
returns g c =
    let same = sym (c.put_fault.ensures.same ∙ c.new-lines.ensures.same) in
    let written = text-written c.new-lines.ensures c.put_fault.ensures c.finish.ensures in
    search rules
