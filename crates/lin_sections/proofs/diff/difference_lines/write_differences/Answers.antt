use Rattle.std.proofs.Common.{sym, ◌∙◌, rules}
use Rattle.lin_text.proofs.Growing.{text-written}
use Rattle.lin_sections.proofs.diff.difference_lines.write_differences.Goals as goal

pub returns : goal.returns
returns g c =
    let same = sym (c.put_listed.ensures.same ∙ c.new-out.ensures.same) in
    let written = text-written c.new-out.ensures c.put_listed.ensures c.finish.ensures in
    search rules
