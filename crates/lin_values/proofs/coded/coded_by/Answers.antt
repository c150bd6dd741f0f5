use Rattle.std.proofs.Common.{map, subst, sym, ◌≡◌, ◌∙◌}
use Rattle.std.specs.Prelude.{IsSorted}
use Rattle.lin_cluster.specs.Findings.{finding_cmp}
use Rattle.lin_values.proofs.CodedSignals.{all-moved}
use Rattle.lin_values.specs.Coded.{signal_coding}
use Rattle.lin_values.specs.Gathered.{lines_of}
use Rattle.lin_values.specs.Kept.{kept_signal}
use Rattle.lin_values.proofs.coded.coded_by.Goals as goal

pub returns-clause-coded : goal.returns-clause-coded
returns-clause-coded c =
    let lent = c.as_slice-3.ensures.value ∙ c.in_ok-encodings.ensures.same in
    let kept = c.new.ensures ∙ sym c.as_slice-3.ensures.value in
    let same : map (kept_signal c.new.result) c.new-2.result ≡ map (signal_coding c.args.codings) c.args.cluster.now.signals =
    (λ i. map (kept_signal (kept i)) (c.new-2.ensures i)) ∙ c.in_ok-signals.ensures.signals
    ∙ (λ i. map (signal_coding (lines_of (c.as_slice-2.ensures i) (lent i) (c.as_slice-4.ensures i))) c.args.cluster.now.signals) in
    λ i. record { signals = same i }

pub returns-clause-warnings : goal.returns-clause-warnings
returns-clause-warnings c =
    all-moved c.args.cluster.now c.args.codings c.as_slice.result.now c.as_slice-2.result.now c.as_slice-3.result.now c.as_slice-4.result.now c.new-warned.result.items c.add_bad.new.warned.items c.all_encodings.new.warned.items c.coded_signals.new.warned.items c.sort.new.self.items c.new-3.result
    c.new-warned.ensures.items c.as_slice.ensures c.in_ok-add_bad.ensures c.in_ok-encodings.ensures.warned c.as_slice-2.ensures (c.as_slice-3.ensures.value ∙ c.in_ok-encodings.ensures.same) c.as_slice-4.ensures c.in_ok-signals.ensures.warned c.in_ok-sort.ensures.permutation c.new-3.ensures

pub returns-clause-ordered : goal.returns-clause-ordered
returns-clause-ordered c = subst (IsSorted finding_cmp) (sym c.new-3.ensures) c.in_ok-sort.ensures.sorted
