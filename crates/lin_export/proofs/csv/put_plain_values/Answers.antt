use Rattle.std.proofs.Common.{◌≡◌, flat_map, length, sym, ap, ◌∙◌, arith}
use Rattle.std.specs.Prelude.{Some, None}
use Rattle.std.proofs.lemmas.Option.{slice_get-get_or}
use Rattle.lin_frame.specs.Words.{numbers}
use Rattle.lin_text.proofs.Growing.{grows-more, same-growth}
use Rattle.lin_export.specs.Csv.{after_comma, signal_cells}
use Rattle.lin_export.proofs.Rows.{cells-more}
use Rattle.lin_export.proofs.csv.put_plain_values.Goals as goal

pub loop-signal-preserved : goal.loop-signal-preserved
loop-signal-preserved g c = λ says are.
    let i = c.loop-signal.signal in
    let v = c.index-values-from.result in
    let is = rw c.from.ensures at c.index-values-from.is in
    let number = c.signals-signal-end.ensures.number in
    let inside = c.loop-signal-test.true in
    same-growth (sym (cells-more (signal_cells None says) i))
    (grows-more (c.loop-signal.invariant says are) (c.put_plain_signal.ensures says (are i v (slice_get-get_or c.args.values.now i v (omega arith) ∙ ap Some (sym is)))))

pub returns : goal.returns
returns g c = λ says are.
    let number = c.signals-signal-end.ensures.number in
    let t = c.loop-signal-test.false in
    let all : c.loop-signal.signal ≡ length c.args.cluster.now.signals = omega arith in
    same-growth (ap (λ n. flat_map after_comma (flat_map (signal_cells None says) (numbers n))) all) (c.loop-signal.invariant says are)
