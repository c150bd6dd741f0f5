use Rattle.std.proofs.Common.{sym, ◌∙◌, rules}
use Rattle.lin_text.proofs.Growing.{text-written}
use Rattle.lin_tool.proofs.tally.write_missed_faults.Goals as goal

pub returns : goal.returns
returns g c =
    let put = c.put_missed_faults.ensures in
    let same = sym (put.same ∙ c.new-out.ensures.same) in
    let written = text-written c.new-out.ensures put c.finish.ensures in
    search rules
