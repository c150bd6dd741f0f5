use Rattle.std.proofs.Common.{append-nil, sym}
use Rattle.lin_text.proofs.Growing.{grows-more, same-growth}
use Rattle.lin_log.specs.Words.{spaced_word}
use Rattle.lin_export.proofs.check_object.problems.put_words.Goals as goal

pub returns-in-Some : goal.returns-in-Some
returns-in-Some g c = rw c.in-Some.is (grows-more c.put_word.ensures (grows-more c.put_number.ensures (grows-more c.put_word-in-Some.ensures c.put_needed.ensures)))

pub returns-in-None : goal.returns-in-None
returns-in-None g c = rw c.in-None.is (same-growth (sym (append-nil (spaced_word c.args.problem.now.name.now))) c.put_word-in-None.ensures)
