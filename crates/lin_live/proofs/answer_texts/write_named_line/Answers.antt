use Rattle.std.proofs.Common.{◌∙◌, sym, rules}
use Rattle.lin_text.proofs.Growing.{grows-more, text-written}
use Rattle.lin_live.proofs.answer_texts.write_named_line.Goals as goal

pub returns : goal.returns
returns g c = λ k.
    let put = grows-more c.put.ensures (c.put_verdict_ending.ensures k) in
    let same = sym (put.same ∙ c.new-out.ensures.same) in
    let written = text-written c.new-out.ensures put c.finish.ensures in
    search rules
