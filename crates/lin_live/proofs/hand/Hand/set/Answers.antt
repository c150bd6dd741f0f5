use Rattle.std.proofs.Common.{◌∙◌, Err, ap, refl}
use Rattle.std.proofs.lemmas.Result.{err_from_is_err_and}
use Rattle.lin_text.proofs.Adding.{appends-nothing}
use Rattle.lin_live.specs.Told.{heard_reply}
use Rattle.lin_live.specs.Heard.Heard.{SetParameter}
use Rattle.lin_live.proofs.HeldMarks.{failed-so, parameter-its, set-by}
use Rattle.lin_live.proofs.hand.Hand.set.Goals as goal

pub returns-in_default : goal.returns-in_default
returns-in_default g c = appends-nothing (g.W.Write.contents c.args.writer.now)

pub returns-in_err-set : goal.returns-in_err-set
returns-in_err-set g c =
    let a = c.self.inside in
    let p = err_from_is_err_and c.from_residual.result c.from_residual.ensures.1 in
    failed-so (heard_reply c.args.self.now (SetParameter c.args.parameter)) ⊥ _ _ _ _ c.set.result c.from_residual.result c.in_err-set.field-0.0 c.in_err-set.was (p.1 ∙ ap Err p.2)
    (set-by a.held a.marks a.marks c.in-Some.held c.args.self.now c.set.new.self c.args.parameter _ _ c.set.result refl c.in-Some.is c.self.view_is c.set.ensures)

pub invariant_of-self-2 : goal.invariant_of-self-2
invariant_of-self-2 g c =
    let a = c.self.inside in
    parameter-its a.held a.marks c.take-marks.result a.opening c.in-Some.held c.set.new.self c.args.parameter c.take-marks.ensures.value c.in-Some.is c.self.invariant
    (rw c.in_ok-set.was at c.set.ensures).1

pub returns : goal.returns
returns g c =
    let a = c.self.inside in
    rw c.in_ok-set.was at (set-by a.held a.marks c.take-marks.result c.in-Some.held c.args.self.now c.set.new.self c.args.parameter _ _ c.set.result
    c.take-marks.ensures.value c.in-Some.is c.self.view_is c.set.ensures)
