use Rattle.lin_text.proofs.Growing.{grows-more}
use Rattle.lin_log.proofs.pattern.put_pattern.Goals as goal

pub returns-then-pattern : goal.returns-then-pattern
returns-then-pattern g c =
    rw c.if-pattern.true (grows-more (rw c.as_slice.ensures at c.put_pattern_bytes.ensures) c.put_byte.ensures)
