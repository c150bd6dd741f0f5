use Rattle.std.proofs.Common.{◌≡◌, ◌∙◌, not, ap, sym, ◌∷◌, [], Some, refl, rules}
use Rattle.std.proofs.lemmas.Result.{err_from_is_err_and}
use Rattle.std.proofs.lemmas.List.Sums.{fold-append}
use Rattle.lin_ldf.specs.Words.{no_word}
use Rattle.lin_ldf.specs.Loops.{several}
use Rattle.lin_ldf.proofs.SeveralSteps.{several_goes_on, several_fails, several_is_done, fails_before}
use Rattle.lin_ldf.proofs.repeat.block.Goals as goal

pub returns-in_err-item-clause-read : goal.returns-in_err-item-clause-read
returns-in_err-item-clause-read g c =
    let i = g.I.ItemForm.items in
    let total = (several no_word i.next i.form c.args.state.now).read c.mark.new.self in
    let p = err_from_is_err_and c.from_residual-in_err-item.result c.from_residual-in_err-item.ensures.1 in
    let fails = several_fails no_word i.next (λ s. (i.form s).read) i.shrinks c.in_err-item.field-0.0 c.loop-parser.state c.loop-parser.items.items c.loop-parser.parser total (ap not (sym c.is_at.ensures ∙ c.loop-parser-test.true)) c.in_err-item.ensures.read c.loop-parser.invariant.read in
    rw (p.1, p.2, c.in_ok-mark.ensures) (fails_before c.in_err-item.field-0.0 total _ fails)

pub loop-parser-preserved : goal.loop-parser-preserved
loop-parser-preserved g c =
    let i = g.I.ItemForm.items in
    record {
      read = rw (c.in_ok-push.ensures, c.in_ok-item.ensures.state) (several_goes_on no_word i.next (λ s. (i.form s).read) i.shrinks c.loop-parser.state c.loop-parser.items.items c.loop-parser.parser c.in_ok-item.item c.parse.new.parser ((several no_word i.next i.form c.args.state.now).read c.mark.new.self) (ap not (sym c.is_at.ensures ∙ c.loop-parser-test.true)) c.in_ok-item.ensures.read c.loop-parser.invariant.read);
      state = rw c.in_ok-push.ensures (c.in_ok-item.ensures.state ∙ ap (λ x. i.next x c.in_ok-item.item) c.loop-parser.invariant.state ∙ sym (fold-append i.next c.args.state.now c.loop-parser.items.items (c.in_ok-item.item ∷ [])));
    }

pub returns-in_err-mark-2-clause-read : goal.returns-in_err-mark-2-clause-read
returns-in_err-mark-2-clause-read g c =
    let i = g.I.ItemForm.items in
    let total = (several no_word i.next i.form c.args.state.now).read c.mark.new.self in
    let done : total ≡ Some (c.loop-parser.items.items, c.loop-parser.parser) = several_is_done no_word i.next (λ s. (i.form s).read) i.shrinks c.loop-parser.state c.loop-parser.items.items c.loop-parser.parser total (ap not (sym c.is_at.ensures ∙ c.loop-parser-test.false)) c.loop-parser.invariant.read in
    rw (c.in_ok-mark.ensures, done) (search rules)

pub returns-clause-read : goal.returns-clause-read
returns-clause-read g c =
    let i = g.I.ItemForm.items in
    let total = (several no_word i.next i.form c.args.state.now).read c.mark.new.self in
    let done : total ≡ Some (c.loop-parser.items.items, c.loop-parser.parser) = several_is_done no_word i.next (λ s. (i.form s).read) i.shrinks c.loop-parser.state c.loop-parser.items.items c.loop-parser.parser total (ap not (sym c.is_at.ensures ∙ c.loop-parser-test.false)) c.loop-parser.invariant.read in
    rw (c.in_ok-mark.ensures, done, c.in_ok-mark-2.ensures, c.new.ensures) refl
