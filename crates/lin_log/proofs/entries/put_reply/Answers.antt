use Rattle.lin_text.proofs.Growing.{grows-more, same-growth}
use Rattle.lin_log.proofs.Ends.{grows-last}
use Rattle.lin_log.proofs.Logs.{events-mapped}
use Rattle.lin_log.proofs.entries.put_reply.Goals as goal

pub returns-in-Done : goal.returns-in-Done
returns-in-Done g c = rw c.in-Done.is (same-growth (events-mapped _) (rw c.as_slice.ensures at c.put_events.ensures))

pub returns-in-Refused : goal.returns-in-Refused
returns-in-Refused g c = rw c.in-Refused.is
    (grows-last (grows-more c.put_text.ensures (grows-more (rw (c.from.ensures, c.number.ensures) at c.put_called.ensures) c.put_byte.ensures)))
