use Rattle.lin_log.specs.Language.{named_language}
use Rattle.lin_live.proofs.answer_texts.put_steps_ending.Goals as goal

pub returns-in-Some : goal.returns-in-Some
returns-in-Some g c = λ x k. rw c.in-Some.is (rw (c.from.ensures, c.number.ensures, c.word.ensures) at c.put_hash_line.ensures)

pub returns-in-None : goal.returns-in-None
returns-in-None g c = λ x k. rw c.in-None.is (c.put_ok.ensures (named_language x))
