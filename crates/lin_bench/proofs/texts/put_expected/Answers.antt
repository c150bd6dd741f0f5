use Rattle.lin_text.proofs.Growing.{grows-more}
use Rattle.lin_bench.proofs.texts.put_expected.Goals as goal

pub returns-in_default : goal.returns-in_default
returns-in_default g c = grows-more c.put_byte.ensures (rw c.expected_line.ensures at c.put_word_list.ensures)
