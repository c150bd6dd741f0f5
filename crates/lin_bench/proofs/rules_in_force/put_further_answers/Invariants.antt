use Rattle.std.proofs.Common.{flat_map, take}
use Rattle.lin_text.specs.Written.{Grows}
use Rattle.lin_bench.specs.RulesInForce.{further_answer_text}
use Rattle.lin_bench.proofs.rules_in_force.put_further_answers.Given as goal

abbrev pub invariant-loop-answer : goal.invariant-loop-answer
invariant-loop-answer g l = Grows g.W.Write.contents l.initial.out l.out (flat_map further_answer_text (take l.answer-index l.answers))
