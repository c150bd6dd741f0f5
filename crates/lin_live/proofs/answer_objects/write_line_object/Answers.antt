use Rattle.lin_live.proofs.answer_objects.write_line_object.Goals as goal

pub returns-in-Refused : goal.returns-in-Refused
returns-in-Refused g c = λ x k.
    rw c.in-Refused.is (rw (c.from.ensures, c.number.ensures, c.as_bytes.ensures.value, c.word.ensures) at c.write_object-in-Refused.ensures)
