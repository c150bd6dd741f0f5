use Rattle.std.proofs.Common.{take}
use Rattle.lin_text.specs.Written.{Grows}
use Rattle.lin_field.specs.Plain.{after_commas, number_text}
use Rattle.lin_field.proofs.plain.written_words.put_more_numbers.Given as goal

abbrev pub invariant-loop-number : goal.invariant-loop-number
invariant-loop-number g l = Grows g.W.Write.contents l.fn.out l.out (after_commas number_text (take l.number-index l.numbers))
