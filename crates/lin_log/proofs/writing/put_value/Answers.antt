use Rattle.lin_text.proofs.Growing.{grows-more}
use Rattle.lin_log.proofs.writing.put_value.Goals as goal

pub returns-in-Scalar : goal.returns-in-Scalar
returns-in-Scalar g c = rw c.in-Scalar.is (rw c.from.ensures at c.put_called.ensures)

pub returns-in-Bytes : goal.returns-in-Bytes
returns-in-Bytes g c = rw c.in-Bytes.is (rw c.as_slice.ensures.items at (grows-more c.put_text.ensures c.put_hex.ensures))
