use Rattle.lin_text.proofs.Growing.{grows-more}
use Rattle.lin_field.proofs.PlainWords.{not-zero}
use Rattle.lin_field.proofs.plain.written_words.put_decimals.Goals as goal

pub returns-then-rest-ne0 : goal.returns-then-rest-ne0
returns-then-rest-ne0 g c =
    rw (not-zero c.args.rest c.if-rest-ne0.true)
    (grows-more c.put_byte.ensures (grows-more c.put_number.ensures (grows-more c.put_digit.ensures c.put_digit-then-rest-ne0.ensures)))
