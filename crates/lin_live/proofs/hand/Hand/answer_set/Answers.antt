use Rattle.std.proofs.Common.{Ok, Some, subst, sym}
use Rattle.lin_bench.specs.Fields.{line_fields}
use Rattle.lin_bench.specs.Resolved.{parameter_said}
use Rattle.lin_live.specs.Asked.{Fails, script_fault, script_field}
use Rattle.lin_live.specs.Heard.{set_heard}
use Rattle.lin_live.specs.Heard.Heard.{SetParameter}
use Rattle.lin_live.proofs.Replying.{fails-more, fails-script}
use Rattle.lin_live.proofs.hand.Hand.answer_set.Goals as goal

pub returns-in-Err : goal.returns-in-Err
returns-in-Err g c =
    let fs = line_fields c.args.line.now in
    let e = c.in-Err.fault in
    let failed = fails-more (script_fault e) (script_field (parameter_said fs)) (λ p. Ok (Some (SetParameter p))) (fails-script e (parameter_said fs) c.in-Err.ensures) in
    c.answer_fault.ensures (set_heard fs) (subst (λ f. Fails f (set_heard fs)) (sym c.from.ensures) failed)
