use Rattle.std.proofs.Common.{◌≡◌, ℕ, flat_map, length, refl, sym, ap, ◌∙◌, subst, arith}
use Rattle.std.specs.Prelude.{Some}
use Rattle.std.proofs.lemmas.Option.{slice_get-get_or, slice_get_read}
use Rattle.lin_frame.specs.Words.{numbers}
use Rattle.lin_text.proofs.Growing.{grows-more, same-growth}
use Rattle.lin_export.specs.Csv.{after_comma, signal_cells}
use Rattle.lin_export.specs.KeptCells.{AreCellsOf}
use Rattle.lin_export.proofs.KeptMore.{kept-set}
use Rattle.lin_export.proofs.Rows.{cells-more}
use Rattle.lin_export.proofs.csv.put_coded_values.Goals as goal

pub put_coded_signal-requires : goal.put_coded_signal-requires
put_coded_signal-requires g c =
    let i = c.from-index.result in
    let xs = c.loop-signal.kept.items in
    let old = c.index_mut.result.now in
    let same = c.from-index.ensures in
    let number = c.loop-signal.invariant.kept.number in
    let count = c.signals-signal-end.ensures.number in
    let inside = c.loop-signal-test.true in
    subst (λ (n : ℕ). AreCellsOf c.args.coded.now n old) same (c.loop-signal.invariant.kept.each i old (slice_get_read xs (length xs) i old refl (omega arith) c.index_mut.ensures.value))

pub loop-signal-preserved : goal.loop-signal-preserved
loop-signal-preserved g c =
    let i = c.loop-signal.signal in
    let v = c.index-values-index.result in
    let is = rw c.from-index.ensures at c.index-values-index.is in
    let count = c.signals-signal-end.ensures.number in
    let inside = c.loop-signal-test.true in
    let new = c.put_coded_signal.new.kept in
    record {
      text = λ says are.
          same-growth (sym (cells-more (signal_cells (Some c.args.coded.now) says) i))
          (grows-more (c.loop-signal.invariant.text says are)
          (c.put_coded_signal.ensures.text says (are i v (slice_get-get_or c.args.values.now i v (omega arith) ∙ ap Some (sym is)))));
      kept = kept-set c.args.coded.now (length c.args.cluster.now.signals) c.loop-signal.kept.items c.from-index.result new c.loop-signal.invariant.kept
          (subst (λ (n : ℕ). AreCellsOf c.args.coded.now n new) (sym c.from-index.ensures) c.put_coded_signal.ensures.kept);
    }

pub returns-clause-text : goal.returns-clause-text
returns-clause-text g c = λ says are.
    let number = c.signals-signal-end.ensures.number in
    let t = c.loop-signal-test.false in
    let all : c.loop-signal.signal ≡ length c.args.cluster.now.signals = omega arith in
    same-growth (ap (λ n. flat_map after_comma (flat_map (signal_cells (Some c.args.coded.now) says) (numbers n))) all) (c.loop-signal.invariant.text says are)
