use Rattle.std.proofs.Common.{◌∙◌, Err, ap, sym}
use Rattle.std.specs.Str.{bytes_eq}
use Rattle.std.proofs.lemmas.Result.{err_from_is_err_and}
use Rattle.lin_live.specs.Marking.{mark_place, start_name}
use Rattle.lin_live.specs.Told.{heard_reply}
use Rattle.lin_live.specs.Heard.Heard.{GoBack}
use Rattle.lin_live.proofs.HeldMarks.{gone-mark, gone-none, gone-start}
use Rattle.lin_live.proofs.LinesTold.{no-memory}
use Rattle.lin_live.proofs.hand.Hand.go_back.Goals as goal

pub returns-in_err-go_to_start : goal.returns-in_err-go_to_start
returns-in_err-go_to_start g c =
    let p = err_from_is_err_and c.from_residual.result c.from_residual.ensures.1 in
    no-memory (heard_reply c.args.self.now (GoBack c.args.name)) ⊥ c.go_to_start.new.self (g.W.Write.contents c.args.writer.now) c.from_residual.result (p.1 ∙ ap Err p.2)

pub returns-then-eq : goal.returns-then-eq
returns-then-eq g c =
    let start = ap (λ x. bytes_eq x start_name) (sym c.as_slice.ensures) ∙ sym c.eq.ensures ∙ c.if-eq.true in
    gone-start c.args.self.now c.go_to_start.new.self c.args.name _ _ c.pass.result start c.in_ok-go_to_start.ensures c.pass.ensures

pub returns-in_default : goal.returns-in_default
returns-in_default g c =
    let other = ap (λ x. bytes_eq x start_name) (sym c.as_slice.ensures) ∙ sym c.eq.ensures ∙ c.if-eq.false in
    let place = ap (mark_place c.args.self.now.marks) (sym c.as_slice-2.ensures) ∙ sym c.place.ensures.place ∙ c.in_default.is in
    gone-none c.args.self.now c.refuse.new.self c.args.name _ _ c.refuse.result other place c.refuse.ensures

pub returns-in_err-go_to : goal.returns-in_err-go_to
returns-in_err-go_to g c =
    let p = err_from_is_err_and c.from_residual-in_err-go_to.result c.from_residual-in_err-go_to.ensures.1 in
    no-memory (heard_reply c.args.self.now (GoBack c.args.name)) ⊥ c.go_to.new.self (g.W.Write.contents c.args.writer.now) c.from_residual-in_err-go_to.result (p.1 ∙ ap Err p.2)

pub returns : goal.returns
returns g c =
    let other = ap (λ x. bytes_eq x start_name) (sym c.as_slice.ensures) ∙ sym c.eq.ensures ∙ c.if-eq.false in
    let place = ap (mark_place c.args.self.now.marks) (sym c.as_slice-2.ensures) ∙ sym c.in-Some.ensures.place in
    gone-mark c.args.self.now c.go_to.new.self c.args.name c.in-Some.place _ _ c.pass-2.result other place c.in-Some.ensures.there c.in_ok-go_to.ensures c.pass-2.ensures
