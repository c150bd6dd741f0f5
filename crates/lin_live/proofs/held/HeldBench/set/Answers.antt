use Rattle.std.proofs.Common.{◌∙◌, Err, List, ap}
use Rattle.std.proofs.lemmas.Result.{err_from_is_err_and}
use Rattle.lin_bench.specs.Resolved.{with_parameter}
use Rattle.lin_bench.specs.declared.parameters.Parameter.{Parameter}
use Rattle.lin_live.specs.Held.{held_data}
use Rattle.lin_live.specs.Told.{HandData, heard_reply}
use Rattle.lin_live.specs.Heard.Heard.{SetParameter}
use Rattle.lin_live.proofs.LinesTold.{no-memory}
use Rattle.lin_live.proofs.Replying.{set-said}
use Rattle.lin_live.proofs.held.HeldBench.set.Goals as goal

pub returns-in_err-set_parameter : goal.returns-in_err-set_parameter
returns-in_err-set_parameter g c =
    let p = err_from_is_err_and c.from_residual.result c.from_residual.ensures.1 in
    no-memory (heard_reply c.args.self.now (SetParameter c.args.parameter)) ⊥ _ (g.W.Write.contents c.args.writer.now) c.from_residual.result (p.1 ∙ ap Err p.2)

pub returns : goal.returns
returns g c =
    let p = c.args.parameter in
    let set = ap (λ (s : List Parameter). record (held_data c.self.inside) { sets = s }) c.in_ok-set_parameter.ensures
    ∙ ap (λ (h : HandData). record h { sets = with_parameter h.sets p.name p.text }) c.self.view_is in
    set-said c.args.self.now _ p _ _ c.pass.result set c.pass.ensures
