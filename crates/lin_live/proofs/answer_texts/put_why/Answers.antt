use Rattle.lin_live.proofs.answer_texts.put_why.Goals as goal

pub returns : goal.returns
returns g c = rw c.question_reason_line.ensures at c.put_word_list.ensures
