use Rattle.std.proofs.Common.{◌∙◌, Err, ap}
use Rattle.std.proofs.lemmas.Result.{err_from_is_err_and}
use Rattle.lin_bench.specs.declared.reason.Reason.TheVariants.{ForScripts}
use Rattle.lin_live.specs.Told.{bad_reply}
use Rattle.lin_live.specs.declared.reason.Reason.TheVariants.{Script}
use Rattle.lin_live.proofs.LinesTold.{no-memory}
use Rattle.lin_live.proofs.hand.Hand.refuse_for_scripts.Goals as goal

pub returns-in_err-word : goal.returns-in_err-word
returns-in_err-word g c =
    let p = err_from_is_err_and c.from_residual.result c.from_residual.ensures.1 in
    no-memory (bad_reply c.args.self.now (Script (ForScripts c.args.word.now))) ⊥ c.args.self.now (g.W.Write.contents c.args.writer.now) c.from_residual.result (p.1 ∙ ap Err p.2)
