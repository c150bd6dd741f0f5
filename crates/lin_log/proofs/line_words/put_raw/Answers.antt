use Rattle.lin_text.proofs.Growing.{grows-more}
use Rattle.lin_log.proofs.line_words.put_raw.Goals as goal

pub returns-in-Bytes : goal.returns-in-Bytes
returns-in-Bytes g c = rw c.in-Bytes.is (rw c.as_slice.ensures.items at (grows-more c.put_byte.ensures c.put_hex.ensures))
