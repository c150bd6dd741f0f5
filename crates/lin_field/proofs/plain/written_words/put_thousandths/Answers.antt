use Rattle.lin_text.proofs.Growing.{grows-more}
use Rattle.lin_field.proofs.plain.written_words.put_thousandths.Goals as goal

pub returns : goal.returns
returns g c = grows-more c.put_decimal.ensures c.put_text.ensures
