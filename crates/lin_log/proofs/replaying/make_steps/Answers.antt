use Rattle.std.proofs.Common.{◌≡◌, ◌++◌, ◌∷◌, [], ◌∙◌, ap, sym, arith, rules, refl}
use Rattle.std.proofs.lemmas.Grind.{common_steps}
use Rattle.lin_core.specs.declared.port.PortId.{PortId}
use Rattle.lin_core.specs.declared.step.Step.{Step}
use Rattle.lin_core.specs.Core.{entry_with_reply}
use Rattle.lin_log.specs.Judged.{with_prefix}
use Rattle.lin_log.proofs.Judging.{log-more, prefixed-more, prefixed-nothing}
use Rattle.lin_log.proofs.replaying.make_steps.Goals as goal

pub loop-fault-init : goal.loop-fault-init
loop-fault-init c = record {
  made = record { steps = []; read = prefixed-nothing _ ∙ c.new-lines.ensures.said; log_is = c.requires.empty };
  alike = (refl, refl, refl);
  few = omega arith;
  each = rw c.requires.empty (omega arith);
  most = omega arith;
}

pub loop-fault-preserved : goal.loop-fault-preserved
loop-fault-preserved c =
    let m = c.loop-fault.invariant.made in
    let step : PortId × Step = (c.in-Ok-Some.by, c.in-Ok-Some.step) in
    let next = rw c.in-Ok-Some.field-0-is at c.in-Ok-Some.ensures.step in
    let a = c.loop-fault.invariant.alike in
    let made : c.make_step.new.core.log ≡ c.loop-fault.core.log ++ entry_with_reply c.loop-fault.core c.in-Ok-Some.by c.in-Ok-Some.step ∷ [] = search rules in
    record {
      made = record {
        steps = m.steps ++ step ∷ [];
        read = prefixed-more m.steps (step ∷ []) _ ∙ ap (with_prefix m.steps) (sym next) ∙ m.read;
        log_is = (rw (a.0, a.1, a.2) at made) ∙ log-more _ _ _ m.steps step _ m.log_is;
      };
      alike = search rules;
      few = omega arith;
      each = grind (arith, common_steps);
      most = omega arith;
    }
