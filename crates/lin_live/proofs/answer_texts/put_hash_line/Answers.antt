use Rattle.lin_text.proofs.Growing.{grows-more}
use Rattle.lin_live.proofs.answer_texts.put_hash_line.Goals as goal

pub returns : goal.returns
returns g c = grows-more c.put_byte.ensures (grows-more c.put_all_after.ensures c.put_byte-2.ensures)
