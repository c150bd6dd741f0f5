use Rattle.std.proofs.Common.{ap, sym}
use Rattle.lin_text.proofs.Growing.{grows-more, same-growth}
use Rattle.lin_bench.specs.RulesInForce.{answers_text}
use Rattle.lin_log.proofs.CallerTexts.{first-and-rest}
use Rattle.lin_bench.proofs.rules_in_force.put_answers.Goals as goal

pub returns-in-len1-up : goal.returns-in-len1-up
returns-in-len1-up g c =
    same-growth (sym (ap answers_text (first-and-rest c.args.answers.now c.first-item.result c.in-len1-up.len_at_least c.first-item.is)))
    (grows-more c.put_text-in-len1-up.ensures (grows-more c.put_answer.ensures c.put_further_answers.ensures))
