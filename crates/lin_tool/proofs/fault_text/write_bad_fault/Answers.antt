use Rattle.std.proofs.Common.{◌∙◌, sym, rules}
use Rattle.lin_text.proofs.Growing.{grows-more, text-written}
use Rattle.lin_tool.proofs.fault_text.write_bad_fault.Goals as goal

pub returns : goal.returns
returns g c =
    let put = grows-more c.put_text.ensures (grows-more c.put.ensures (grows-more c.put_text-2.ensures (grows-more c.put_fault_reason.ensures c.put_byte.ensures))) in
    let same = sym (put.same ∙ c.new-out.ensures.same) in
    let written = text-written c.new-out.ensures put c.finish.ensures in
    search rules
