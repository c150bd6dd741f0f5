use Rattle.std.proofs.Common.{◌∙◌, [], arith, false, sym, true}
use Rattle.std.specs.Prelude.{codes, Some}
use Rattle.std.specs.Str.{bytes_eq}
use Rattle.std.proofs.lemmas.List.Quantifiers.{position-Some}
use Rattle.lin_bench.specs.Parts.{fields_of}
use Rattle.lin_bench.proofs.FieldParts.{no-front}
use Rattle.lin_bench.proofs.WordedLines.{equals-at, equals-parts, first-equals, none-equals}
use Rattle.lin_bench.proofs.worded_ons.marked_form.Goals as goal

pub returns-in_err-at : goal.returns-in_err-at
returns-in_err-at c =
    let form = fields_of c.args.form in
    rw c.from_residual.ensures (sym (none-equals form (fields_of c.args.behind) (equals-at c.as_slice.result.now form _ c.as_slice.ensures c.in_err-at.ensures.first)))

pub returns-in_err-front : goal.returns-in_err-front
returns-in_err-front c =
    let form = fields_of c.args.form in
    let at = equals-at c.as_slice.result.now form _ c.as_slice.ensures c.in_ok-at.ensures.first in
    absurd (omega (arith, (position-Some (λ f. bytes_eq f (codes "=")) form c.in_ok-at.at [] at).0, c.in_err-front.ensures))

pub returns-in_err-before : goal.returns-in_err-before
returns-in_err-before c =
    let form = fields_of c.args.form in
    let at = equals-at c.as_slice.result.now form _ c.as_slice.ensures c.in_ok-at.ensures.first in
    rw c.from_residual-in_err-before.ensures
    (sym (first-equals form (fields_of c.args.behind) c.in_ok-at.at at
    (no-front form c.in_ok-at.at (fields_of c.in_ok-front.front) _ (fields_of c.in_ok-front.words) c.in_ok-front.ensures c.in_err-before.ensures)))

pub returns-then-not-is_on_signal : goal.returns-then-not-is_on_signal
returns-then-not-is_on_signal c =
    let form = fields_of c.args.form in
    let at = equals-at c.as_slice.result.now form _ c.as_slice.ensures c.in_ok-at.ensures.first in
    sym (equals-parts form (fields_of c.args.behind) c.in_ok-at.at (fields_of c.in_ok-front.front) (fields_of c.in_ok-before.before) c.in_ok-before.signal.now _ (fields_of c.in_ok-front.words) false
    at c.in_ok-front.ensures c.in_ok-before.ensures (sym c.if-not-is_on_signal.ensures))

pub returns : goal.returns
returns c =
    let form = fields_of c.args.form in
    let at = equals-at c.as_slice.result.now form _ c.as_slice.ensures c.in_ok-at.ensures.first in
    sym (equals-parts form (fields_of c.args.behind) c.in_ok-at.at (fields_of c.in_ok-front.front) (fields_of c.in_ok-before.before) c.in_ok-before.signal.now _ (fields_of c.in_ok-front.words) true
    at c.in_ok-front.ensures c.in_ok-before.ensures (sym c.if-not-is_on_signal.ensures))
