use Rattle.std.proofs.Common.{arith}
use Rattle.lin_text.proofs.Growing.{grows-more, grows-next, grows-nothing}
use Rattle.lin_bench.specs.RulesInForce.{further_answer_text}
use Rattle.lin_bench.proofs.rules_in_force.put_further_answers.Goals as goal

pub loop-answer-init : goal.loop-answer-init
loop-answer-init g c = grows-nothing c.args.out.now

pub loop-answer-preserved : goal.loop-answer-preserved
loop-answer-preserved g c =
    grows-next further_answer_text c.args.answers.now c.loop-answer.answer-index c.answer-item.result c.answer-item.is (omega arith) c.loop-answer.invariant
    (grows-more c.put_text.ensures c.put_answer.ensures)
