use Rattle.std.proofs.Common.{◌∙◌, not, ap, sym, ◌∷◌, []}
use Rattle.std.proofs.lemmas.Result.{err_from_is_err_and}
use Rattle.std.proofs.lemmas.List.Sums.{fold-append}
use Rattle.lin_ldf.specs.Forms.{◌&>◌}
use Rattle.lin_ldf.specs.Words.{comma, no_comma, others}
use Rattle.lin_ldf.proofs.SeveralSteps.{several_goes_on, several_fails, several_is_done}
use Rattle.lin_ldf.proofs.Commas.{gives_behind, fails_behind, comma_shrinks}
use Rattle.lin_ldf.proofs.repeat.others.Goals as goal

pub returns-in_err-item-clause-read : goal.returns-in_err-item-clause-read
returns-in_err-item-clause-read g c =
    let i = g.I.ItemForm.items in
    let p = err_from_is_err_and c.from_residual.result c.from_residual.ensures.1 in
    let at = sym c.is_at.ensures ∙ c.loop-parser-test.true in
    let read = fails_behind (i.form c.loop-parser.state) c.loop-parser.parser c.skip.new.self c.in_err-item.field-0.0 at c.skip.ensures c.in_err-item.ensures.read in
    rw (p.1, p.2) (several_fails no_comma i.next (λ s. (comma &> i.form s).read) (λ s. comma_shrinks (i.form s) (i.shrinks s)) c.in_err-item.field-0.0 c.loop-parser.state c.loop-parser.items.items c.loop-parser.parser ((others i.next i.form c.args.state.now).read c.args.parser.now) (ap not at) read c.loop-parser.invariant.read)

pub loop-parser-preserved : goal.loop-parser-preserved
loop-parser-preserved g c =
    let i = g.I.ItemForm.items in
    let at = sym c.is_at.ensures ∙ c.loop-parser-test.true in
    let read = gives_behind (i.form c.loop-parser.state) c.loop-parser.parser c.skip.new.self _ at c.skip.ensures c.in_ok-item.ensures.read in
    record {
      read = rw (c.in_ok-push.ensures, c.in_ok-item.ensures.state) (several_goes_on no_comma i.next (λ s. (comma &> i.form s).read) (λ s. comma_shrinks (i.form s) (i.shrinks s)) c.loop-parser.state c.loop-parser.items.items c.loop-parser.parser c.in_ok-item.item c.parse.new.parser ((others i.next i.form c.args.state.now).read c.args.parser.now) (ap not at) read c.loop-parser.invariant.read);
      state = rw c.in_ok-push.ensures (c.in_ok-item.ensures.state ∙ ap (λ x. i.next x c.in_ok-item.item) c.loop-parser.invariant.state ∙ sym (fold-append i.next c.args.state.now c.loop-parser.items.items (c.in_ok-item.item ∷ [])));
    }

pub returns-clause-read : goal.returns-clause-read
returns-clause-read g c =
    let i = g.I.ItemForm.items in
    rw c.new.ensures (several_is_done no_comma i.next (λ s. (comma &> i.form s).read) (λ s. comma_shrinks (i.form s) (i.shrinks s)) c.loop-parser.state c.loop-parser.items.items c.loop-parser.parser ((others i.next i.form c.args.state.now).read c.args.parser.now) (ap not (sym c.is_at.ensures ∙ c.loop-parser-test.false)) c.loop-parser.invariant.read)
