use Rattle.std.proofs.Common.{◌∙◌, ap, drop, sym, take, None, Some}
use Rattle.lin_bench.specs.Parts.{fields_of}
use Rattle.lin_bench.specs.Words.{marked_form, worded_on}
use Rattle.lin_bench.proofs.WordedLines.{worded-by-end, worded-none, worded-not}
use Rattle.lin_bench.proofs.worded_ons.worded_on.Goals as goal

pub returns-in_err-on : goal.returns-in_err-on
returns-in_err-on c = rw c.from_residual.ensures (sym (ap worded_on c.in_err-on.ensures.split ∙ worded-none))

pub returns-then-ne : goal.returns-then-ne
returns-then-ne c =
    sym (ap worded_on c.in_ok-on.ensures.split ∙ worded-not c.in_ok-on.on.now _ (rw c.as_slice.ensures at c.if-ne.ensures))

pub returns-in_err-end : goal.returns-in_err-end
returns-in_err-end c = rw c.from_residual-in_err-end.ensures (worded-by-end (fields_of c.args.all) None c.in_err-end.ensures)

pub returns : goal.returns
returns c =
    c.marked_form.ensures
    ∙ ap (λ l. marked_form l (fields_of c.skip.result)) c.take.ensures
    ∙ ap (marked_form (take c.in_ok-end.end (fields_of c.args.all))) c.skip.ensures
    ∙ worded-by-end (fields_of c.args.all) (Some c.in_ok-end.end) c.in_ok-end.ensures
