use Rattle.std.proofs.Common.{◌∙◌, Err, ap, refl}
use Rattle.std.proofs.lemmas.Result.{err_from_is_err_and}
use Rattle.lin_text.proofs.Adding.{appends-nothing}
use Rattle.lin_live.specs.Told.{bad_reply}
use Rattle.lin_live.proofs.HeldMarks.{bad-its, failed-so, refused-by}
use Rattle.lin_live.proofs.hand.Hand.refuse.Goals as goal

pub returns-in_default : goal.returns-in_default
returns-in_default g c = appends-nothing (g.W.Write.contents c.args.writer.now)

pub returns-in_err-refuse : goal.returns-in_err-refuse
returns-in_err-refuse g c =
    let a = c.self.inside in
    let p = err_from_is_err_and c.from_residual.result c.from_residual.ensures.1 in
    failed-so (bad_reply c.args.self.now c.args.reason.now) ⊥ _ _ _ _ c.refuse.result c.from_residual.result c.in_err-refuse.field-0.0 c.in_err-refuse.was (p.1 ∙ ap Err p.2)
    (refused-by a.held a.marks a.marks c.in-Some.held c.args.self.now c.refuse.new.self c.args.reason.now _ _ c.refuse.result refl c.in-Some.is c.self.view_is c.refuse.ensures)

pub invariant_of-self-2 : goal.invariant_of-self-2
invariant_of-self-2 g c =
    let a = c.self.inside in
    bad-its a.held a.marks c.take-marks.result a.opening c.in-Some.held c.refuse.new.self c.take-marks.ensures.value c.in-Some.is c.self.invariant
    (rw c.in_ok-refuse.was at c.refuse.ensures).1

pub returns : goal.returns
returns g c =
    let a = c.self.inside in
    rw c.in_ok-refuse.was at (refused-by a.held a.marks c.take-marks.result c.in-Some.held c.args.self.now c.refuse.new.self c.args.reason.now _ _ c.refuse.result
    c.take-marks.ensures.value c.in-Some.is c.self.view_is c.refuse.ensures)
