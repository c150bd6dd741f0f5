use Rattle.std.proofs.Common.{◌++◌, codes, sym, arith}
use Rattle.lin_text.proofs.Growing.{grows-more, same-growth, texts-next}
use Rattle.lin_field.specs.Plain.{number_text}
use Rattle.lin_field.proofs.plain.written_words.put_more_numbers.Goals as goal

pub loop-number-preserved : goal.loop-number-preserved
loop-number-preserved g c =
    same-growth (sym (texts-next (λ x. codes ", " ++ number_text x) c.args.numbers.now c.loop-number.number-index _ (omega arith)))
    (grows-more c.loop-number.invariant (grows-more c.put_text.ensures c.put_one.ensures))
