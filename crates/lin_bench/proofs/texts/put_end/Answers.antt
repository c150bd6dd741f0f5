use Rattle.lin_text.proofs.Growing.{grows-more}
use Rattle.lin_bench.proofs.texts.put_end.Goals as goal

pub returns-in-When : goal.returns-in-When
returns-in-When g c = rw c.in-When.is (grows-more c.put_byte.ensures (rw c.when_end_line.ensures at c.put_word_list.ensures))

pub returns-in-WhensOf : goal.returns-in-WhensOf
returns-in-WhensOf g c = rw c.in-WhensOf.is (grows-more c.put_text.ensures (grows-more c.put_node.ensures c.put_text-in-WhensOf.ensures))
