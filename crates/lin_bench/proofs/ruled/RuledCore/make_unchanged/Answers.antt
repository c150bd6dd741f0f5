use Rattle.std.proofs.Common.{◌≡◌, ◌∙◌, false, sym, ap, is_some}
use Rattle.std.proofs.lemmas.Result.{err_from_is_err_and}
use Rattle.lin_core.specs.Core.{entry_with_reply, past_of}
use Rattle.lin_core.specs.History.{done, finished_slot}
use Rattle.lin_bench.proofs.AddedSteps.{plain-fails, plain-made}
use Rattle.lin_bench.proofs.HeardLinks.{others-finish-none, refused-finishes-none}
use Rattle.lin_bench.proofs.Makes.{newest-past}
use Rattle.lin_bench.proofs.RuledFinish.{done-finish, unruled-made}
use Rattle.lin_bench.proofs.ruled.RuledCore.make_unchanged.Goals as goal
use Rattle.lin_bench.proofs.ruled.RuledCore.make_unchanged.Goals.{else-finishes-via-then-finishes+then-may_add+else-is_done, else-finishes-via-then-finishes+else-may_add, else-finishes-via-else-finishes}

pub returns-in_err-alone : goal.returns-in_err-alone
returns-in_err-alone c =
    let p = err_from_is_err_and c.from_residual.result c.from_residual.ensures.1 in
    rw (p.1, p.2) (plain-fails c.in_err-alone.field-0.0 c.args.self.now c.args.by c.args.step c.in_err-alone.ensures.added.0, c.in_err-alone.ensures.added.1)

pub returns-then-is_done : goal.returns-then-is_done
returns-then-is_done c =
    let before = ap (λ a. a.core) c.self.view_is in
    let core = ap (λ a. a.core) c.self-then-finishes.view_is in
    done-finish c.args.self.now c.alone.new.self c.add.new.self c.args.by c.args.step c.newest.result.now c.time-began.result c.add.result
    (sym c.is_finish-finishes.ensures ∙ c.if-finishes.true) c.in_ok-alone.ensures.added c.in_ok-alone.ensures.rules (rw core at c.newest.ensures)
    (sym c.is_done.ensures ∙ c.if-is_done.true) (rw before at c.time-began.ensures) c.add.ensures

pub returns : goal.returns
returns c =
    elim c.else-finishes.branch [
      | else-finishes-via-then-finishes+then-may_add+else-is_done w ↦
          let core = ap (λ a. a.core) w.self-then-finishes.view_is in
          let newest =
          newest-past c.alone.new.self.core (entry_with_reply c.args.self.now.core c.args.by c.args.step) w.newest.result.now (past_of c.args.self.now.core) c.in_ok-alone.ensures.added.past
          (rw core at w.newest.ensures) in
          let refused : is_some (done (entry_with_reply c.args.self.now.core c.args.by c.args.step)) ≡ false = rw newest at (sym w.is_done.ensures ∙ w.if-is_done.false) in
          plain-made c.args.self.now c.alone.new.self c.args.by c.args.step c.in_ok-alone.ensures.added c.in_ok-alone.ensures.rules
          (ap is_some (refused-finishes-none (entry_with_reply c.args.self.now.core c.args.by c.args.step) (past_of c.args.self.now.core) refused))
      | else-finishes-via-then-finishes+else-may_add w ↦
          unruled-made c.args.self.now c.alone.new.self c.args.by c.args.step c.in_ok-alone.ensures.added c.in_ok-alone.ensures.rules (w.may_add.ensures w.if-may_add.false)
      | else-finishes-via-else-finishes w ↦
          plain-made c.args.self.now c.alone.new.self c.args.by c.args.step c.in_ok-alone.ensures.added c.in_ok-alone.ensures.rules
          (ap is_some
          (others-finish-none c.args.self.now.core.cluster c.args.self.now.core.opening c.args.self.now.core.capacity (past_of c.args.self.now.core) c.args.by c.args.step
          (sym c.is_finish-finishes.ensures ∙ w.if-finishes.false)))
    ]
