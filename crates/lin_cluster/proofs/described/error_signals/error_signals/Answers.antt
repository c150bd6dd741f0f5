use Rattle.std.proofs.Common.{◌+◌, ◌<◌, get_or, length, subst, Vec, Global, [], arith, ap, sym, ◌∙◌, ◌++◌, append-nil}
use Rattle.std.specs.List.{cons_option}
use Rattle.lin_parts.specs.declared.parts.ErrorSignal.{ErrorSignal}
use Rattle.lin_cluster.specs.Described.{error_signal}
use Rattle.lin_cluster.proofs.DescribedErrors.{kept_pushed}
use Rattle.lin_cluster.proofs.described.error_signals.error_signals.Goals as goal
use Rattle.lin_cluster.proofs.described.error_signals.error_signals.Goals.{in-Some+in_ok-push, in_default}

pub loop-i-preserved : goal.loop-i-preserved
loop-i-preserved c =
    let kept = c.loop-i.all.items in
    let slaves = c.slaves-name-items.ensures.value in
    kept_pushed (error_signal c.args.d.now) 1 c.args.d.now.slaves c.loop-i.i c.name-item.result (c.loop-i.i + 1) kept c.match-branch-2.all.items
    (subst (λ xs. c.loop-i.i < length xs) slaves c.loop-i-test.true) (c.name-item.is ∙ ap (λ xs. get_or xs c.loop-i.i c.name-item.result) slaves) (omega arith) c.loop-i.invariant
    (elim c.match-branch-2.branch [
      | in-Some+in_ok-push w ↦ ap (λ (a : Vec ErrorSignal Global). a.items) w.all-is ∙ w.in_ok-push.ensures.items ∙ ap (λ o. kept ++ cons_option o []) (sym w.in-Some.is ∙ c.in_ok-signal.ensures)
      | in_default w ↦ ap (λ (a : Vec ErrorSignal Global). a.items) w.all-is ∙ sym (append-nil kept) ∙ ap (λ o. kept ++ cons_option o []) (sym w.in_default.is ∙ c.in_ok-signal.ensures)
    ])
