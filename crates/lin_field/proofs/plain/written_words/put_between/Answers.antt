use Rattle.lin_text.proofs.Growing.{grows-more}
use Rattle.lin_field.proofs.plain.written_words.put_between.Goals as goal

pub returns : goal.returns
returns g c = grows-more c.put_text.ensures (grows-more c.put.ensures c.put_text-2.ensures)
