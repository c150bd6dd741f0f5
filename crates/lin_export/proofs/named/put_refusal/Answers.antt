use Rattle.lin_export.proofs.named.put_refusal.Goals as goal

pub returns : goal.returns
returns g c = λ l. rw (c.from.ensures, c.number.ensures, c.word.ensures) at c.put_reply.ensures
