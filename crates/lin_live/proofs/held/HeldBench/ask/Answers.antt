use Rattle.std.proofs.Common.{◌∙◌, ◌≡◌, Err, ap, subst}
use Rattle.std.proofs.lemmas.Result.{err_from_is_err_and}
use Rattle.lin_live.specs.Serving.{WritesAlone}
use Rattle.lin_live.specs.Told.{HandData, Is, asked_value, ending_text}
use Rattle.lin_live.specs.Values.{SaidValue, as_said}
use Rattle.lin_live.proofs.LinesTold.{failed-alone}
use Rattle.lin_live.proofs.held.HeldBench.ask.Goals as goal

pub returns-in_err-write_asked : goal.returns-in_err-write_asked
returns-in_err-write_asked g c =
    let after = c.take_slot-known.new.self in
    let value = c.in_ok-value.value in
    let q = c.args.question in
    let said = subst (λ (h : HandData). as_said h.cluster value ≡ asked_value h q) c.self.view_is c.in_ok-value.ensures.said in
    let text =
    ap (λ (s : SaidValue). ending_text after (Is s)) said ∙ ap (λ (h : HandData). ending_text h (Is (asked_value h q))) c.take_slot-known.ensures.same in
    let written =
    subst (λ t. WritesAlone (g.W.Write.contents c.args.writer.now) (g.W.Write.contents c.write_asked.new.writer) t c.write_asked.result) text c.write_asked.ensures in
    let p = err_from_is_err_and c.from_residual-in_err-write_asked.result c.from_residual-in_err-write_asked.ensures.1 in
    failed-alone _ _ _ _ _ c.write_asked.result c.from_residual-in_err-write_asked.result c.in_err-write_asked.field-0.0 written c.in_err-write_asked.was (p.1 ∙ ap Err p.2)
