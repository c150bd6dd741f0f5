use Rattle.std.proofs.Common.{◌∙◌, Err, ap}
use Rattle.std.proofs.lemmas.Result.{err_from_is_err_and}
use Rattle.lin_live.specs.Told.{heard_reply}
use Rattle.lin_live.specs.Heard.Heard.{SetMark}
use Rattle.lin_live.proofs.HeldMarks.{set-so}
use Rattle.lin_live.proofs.LinesTold.{no-memory}
use Rattle.lin_live.proofs.hand.Hand.mark.Goals as goal

pub returns-in_err-set_mark : goal.returns-in_err-set_mark
returns-in_err-set_mark g c =
    let p = err_from_is_err_and c.from_residual.result c.from_residual.ensures.1 in
    no-memory (heard_reply c.args.self.now (SetMark c.args.name)) ⊥ c.set_mark.new.self (g.W.Write.contents c.args.writer.now) c.from_residual.result (p.1 ∙ ap Err p.2)

pub returns : goal.returns
returns g c = set-so c.args.self.now c.set_mark.new.self c.args.name _ _ c.pass.result c.in_ok-set_mark.ensures c.pass.ensures
