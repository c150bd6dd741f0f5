use Rattle.std.proofs.Common.{◌∙◌, Err, ap, refl}
use Rattle.std.proofs.lemmas.Result.{err_from_is_err_and}
use Rattle.lin_text.proofs.Adding.{appends-nothing}
use Rattle.lin_live.proofs.HeldMarks.{asked-its, failed-so, asked-by, asking}
use Rattle.lin_live.proofs.hand.Hand.ask.Goals as goal

pub returns-in_default : goal.returns-in_default
returns-in_default g c = appends-nothing (g.W.Write.contents c.args.writer.now)

pub returns-in_err-ask : goal.returns-in_err-ask
returns-in_err-ask g c =
    let a = c.self.inside in
    let p = err_from_is_err_and c.from_residual.result c.from_residual.ensures.1 in
    failed-so (asking c.args.self.now c.args.question) ⊥ _ _ _ _ c.ask.result c.from_residual.result c.in_err-ask.field-0.0 c.in_err-ask.was (p.1 ∙ ap Err p.2)
    (asked-by a.held a.marks a.marks c.in-Some.held c.args.self.now c.ask.new.self c.args.question _ _ c.ask.result refl c.in-Some.is c.self.view_is c.ask.ensures)

pub invariant_of-self-2 : goal.invariant_of-self-2
invariant_of-self-2 g c =
    let a = c.self.inside in
    asked-its a.held a.marks c.take-marks.result a.opening c.in-Some.held c.ask.new.self c.take-marks.ensures.value c.in-Some.is c.self.invariant
    (rw c.in_ok-ask.was at c.ask.ensures).1

pub returns : goal.returns
returns g c =
    let a = c.self.inside in
    rw c.in_ok-ask.was at (asked-by a.held a.marks c.take-marks.result c.in-Some.held c.args.self.now c.ask.new.self c.args.question _ _ c.ask.result
    c.take-marks.ensures.value c.in-Some.is c.self.view_is c.ask.ensures)
