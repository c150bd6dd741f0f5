use Rattle.lin_text.proofs.Growing.{grows-more}
use Rattle.lin_log.proofs.line_words.put_shown.Goals as goal

pub returns-in-Identifier : goal.returns-in-Identifier
returns-in-Identifier g c = rw c.in-Identifier.is (grows-more c.put_text.ensures c.put_hex_byte-in-Identifier.ensures)
