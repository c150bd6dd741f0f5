use Rattle.std.proofs.Common.{take, map}
use Rattle.lin_text.specs.Written.{Grows}
use Rattle.lin_export.specs.Json.{printable_text, with_commas}
use Rattle.lin_live.proofs.answer_objects.put_rule_values.Given as goal

abbrev pub invariant-loop-place : goal.invariant-loop-place
invariant-loop-place g l = Grows g.W.Write.contents l.initial.out l.out (with_commas (map printable_text (take l.place l.lines)))
