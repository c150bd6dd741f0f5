use Rattle.lin_text.proofs.Growing.{grows-more}
use Rattle.lin_log.proofs.entries.put_entry.Goals as goal

pub returns : goal.returns
returns g c = grows-more c.put_step_line.ensures c.put_reply.ensures
