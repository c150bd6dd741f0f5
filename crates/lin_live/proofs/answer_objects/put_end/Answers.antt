use Rattle.lin_text.proofs.Growing.{grows-more}
use Rattle.lin_live.proofs.answer_objects.put_end.Goals as goal

pub returns : goal.returns
returns g c = grows-more c.put_type.ensures (rw c.as_bytes.ensures.value at c.put_member.ensures)
