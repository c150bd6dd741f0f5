use Rattle.std.proofs.Common.{◌∙◌, sym, rules}
use Rattle.lin_log.specs.Language.{plain}
use Rattle.lin_text.proofs.Growing.{text-written}
use Rattle.lin_live.proofs.answer_texts.write_ok.Goals as goal

pub returns : goal.returns
returns g c =
    let put = c.put_ok.ensures plain in
    let same = sym (put.same ∙ c.new-out.ensures.same) in
    let written = text-written c.new-out.ensures put c.finish.ensures in
    search rules
