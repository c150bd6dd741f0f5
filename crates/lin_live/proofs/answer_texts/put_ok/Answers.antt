use Rattle.lin_live.proofs.answer_texts.put_ok.Goals as goal

pub returns : goal.returns
returns g c = λ l. c.put_text.ensures
