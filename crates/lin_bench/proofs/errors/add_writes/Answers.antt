use Rattle.std.proofs.Common.{◌≡◌, ◌∙◌, ◌++◌, ◌∷◌, ◌<◌, [], Vec, Global, ap, append-nil, get_or, length, subst, sym}
use Rattle.std.specs.Prelude.{option_map}
use Rattle.std.specs.List.{cons_option}
use Rattle.lin_core.specs.Core.{past_of}
use Rattle.lin_core.specs.declared.port.PortId.{PortId}
use Rattle.lin_core.specs.declared.step.Step.{Step}
use Rattle.lin_bench.specs.Errors.{error_told, error_write}
use Rattle.lin_bench.proofs.ToldErrors.{told_step}
use Rattle.lin_bench.proofs.errors.add_writes.Goals as goal
use Rattle.lin_bench.proofs.errors.add_writes.Goals.{in-Some+in_ok-push, in_default}

pub loop-signal-preserved : goal.loop-signal-preserved
loop-signal-preserved c =
    let core = c.args.core.now in
    let found = c.loop-signal.steps.items in
    let signal = c.signal-item.result in
    let all = c.error_signals-signal-items.ensures ∙ ap (λ x. x.errors) c.cluster-2.ensures in
    told_step (error_told core.cluster (past_of core) c.args.ended.now c.args.offs.now) core.cluster.errors c.loop-signal.signal-index signal c.args.steps.now.items found c.match-set_unless_off.steps.items
    (subst (λ xs. c.loop-signal.signal-index < length xs) all c.loop-signal-test.true) (c.signal-item.is ∙ ap (λ xs. get_or xs c.loop-signal.signal-index signal) all) c.loop-signal.invariant
    (elim c.match-set_unless_off.branch [
      | in-Some+in_ok-push w ↦
          ap (λ (v : Vec (PortId × Step) Global). v.items) w.steps-is ∙ w.in_ok-push.ensures.items ∙ ap (λ x. found ++ x ∷ []) w.write_of.ensures
          ∙ ap (λ o. found ++ cons_option (option_map (error_write signal) o) []) (sym w.in-Some.is ∙ c.set_unless_off.ensures)
      | in_default w ↦
          ap (λ (v : Vec (PortId × Step) Global). v.items) w.steps-is ∙ sym (append-nil found)
          ∙ ap (λ o. found ++ cons_option (option_map (error_write signal) o) []) (sym w.in_default.is ∙ c.set_unless_off.ensures)
    ])
