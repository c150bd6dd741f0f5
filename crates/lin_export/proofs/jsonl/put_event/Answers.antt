use Rattle.lin_export.proofs.jsonl.put_event.Goals as goal

pub returns-in-Asleep : goal.returns-in-Asleep
returns-in-Asleep g c = rw c.in-Asleep.is c.put_object_line.ensures
