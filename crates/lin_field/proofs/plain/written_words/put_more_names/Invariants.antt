use Rattle.std.proofs.Common.{take}
use Rattle.lin_text.specs.Written.{Grows}
use Rattle.lin_field.specs.Plain.{after_commas, name_text}
use Rattle.lin_field.proofs.plain.written_words.put_more_names.Given as goal

abbrev pub invariant-loop-name : goal.invariant-loop-name
invariant-loop-name g l = Grows g.W.Write.contents l.fn.out l.out (after_commas name_text (take l.name-index l.names))
