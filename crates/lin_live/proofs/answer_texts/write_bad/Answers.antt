use Rattle.std.proofs.Common.{◌∙◌, sym, rules}
use Rattle.lin_log.specs.Language.{plain}
use Rattle.lin_text.proofs.Growing.{grows-more, same-growth, text-written}
use Rattle.lin_bench.proofs.LineWords.{line-quiet}
use Rattle.lin_live.specs.Told.{question_reason_text, question_reason_words}
use Rattle.lin_live.proofs.SaidWords.{bad-text}
use Rattle.lin_live.proofs.answer_texts.write_bad.Goals as goal

pub returns : goal.returns
returns g c =
    let why = c.args.reason.now in
    let put =
    same-growth (bad-text (question_reason_text why) (line-quiet plain (question_reason_words why))) (grows-more c.put_text.ensures (grows-more c.put_why.ensures c.put_byte.ensures)) in
    let same = sym (put.same ∙ c.new-out.ensures.same) in
    let written = text-written c.new-out.ensures put c.finish.ensures in
    search rules
