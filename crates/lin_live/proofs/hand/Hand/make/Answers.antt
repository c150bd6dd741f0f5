use Rattle.std.proofs.Common.{◌∙◌, Err, ap, refl}
use Rattle.std.proofs.lemmas.Result.{err_from_is_err_and}
use Rattle.lin_text.proofs.Adding.{appends-nothing}
use Rattle.lin_live.specs.Told.{IsFullFor, heard_reply}
use Rattle.lin_live.specs.Heard.Heard.{Make}
use Rattle.lin_live.proofs.HeldMarks.{failed-so, made-by, made-its}
use Rattle.lin_live.proofs.hand.Hand.make.Goals as goal

pub returns-in_default : goal.returns-in_default
returns-in_default g c = appends-nothing (g.W.Write.contents c.args.writer.now)

pub returns-in_err-make : goal.returns-in_err-make
returns-in_err-make g c =
    let a = c.self.inside in
    let p = err_from_is_err_and c.from_residual.result c.from_residual.ensures.1 in
    failed-so (heard_reply c.args.self.now (Make c.args.line)) (IsFullFor c.args.self.now c.args.line) _ _ _ _ c.make.result c.from_residual.result c.in_err-make.field-0.0 c.in_err-make.was (p.1 ∙ ap Err p.2)
    (made-by a.opening a.held a.marks a.marks c.in-Some.held c.args.self.now c.make.new.self c.args.line _ _ c.make.result refl c.in-Some.is c.self.invariant c.self.view_is c.make.ensures)

pub invariant_of-self-2 : goal.invariant_of-self-2
invariant_of-self-2 g c =
    let a = c.self.inside in
    made-its a.held a.marks c.take-marks.result a.opening c.in-Some.held c.make.new.self c.args.line c.take-marks.ensures.value c.in-Some.is c.self.invariant
    (rw c.in_ok-make.was at c.make.ensures).1

pub returns : goal.returns
returns g c =
    let a = c.self.inside in
    rw c.in_ok-make.was at (made-by a.opening a.held a.marks c.take-marks.result c.in-Some.held c.args.self.now c.make.new.self c.args.line _ _ c.make.result
    c.take-marks.ensures.value c.in-Some.is c.self.invariant c.self.view_is c.make.ensures)
