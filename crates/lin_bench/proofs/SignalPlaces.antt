-- The signal of a line without words, by its place.
use Rattle.std.proofs.Common.{◌≡◌, ◌∙◌, ℕ, suc, zero, ◌-◌, ◌<◌, Bool, List, [], Some, true, false, ap, arith, refl, sym, take}
use Rattle.std.specs.Prelude.{slice_index_or}
use Rattle.lin_parts.specs.declared.parts.Parts.{Parts}
use Rattle.lin_values.specs.Coded.{CodedData}
use Rattle.lin_bench.specs.Fields.{Cuts, signal_field}
use Rattle.lin_bench.specs.Words.{is_expect, is_signal, is_signal_after, last_signal, why_at, why_value}

pub signal-here : (c : Parts) (fs : List (List ℕ)) (at : ℕ) → 0 < at → is_signal c fs at ≡ true → last_signal c fs at ≡ Some at
signal-here c fs zero h is = absurd (omega arith)
signal-here c fs (suc i) h is = rw is refl

pub signal-before : (c : Parts) (fs : List (List ℕ)) (at : ℕ) → 0 < at → is_signal c fs at ≡ false → last_signal c fs at ≡ last_signal c fs (at - 1)
signal-before c fs zero h is = absurd (omega arith)
signal-before c fs (suc i) h is =
    let less : suc i - 1 ≡ i = omega arith in
    rw is (ap (last_signal c fs) (sym less))

-- ---- as code cuts the fields

pub signal-cut : (c : Parts) (fs : List (List ℕ)) (at : ℕ) (before : List (List ℕ)) (signal : List ℕ) (value : List (List ℕ)) → Cuts fs at before signal value
    → is_signal_after c before signal ≡ is_signal c fs at
signal-cut c fs at before signal value cut =
    sym (ap (λ b. is_signal_after c b (slice_index_or fs at [])) cut.before ∙ ap (is_signal_after c before) cut.field)

pub why-cut : (c : Parts) (k : CodedData) (fs : List (List ℕ)) (at : ℕ) (before : List (List ℕ)) (signal : List ℕ) (value : List (List ℕ)) (ranged : Bool) → Cuts fs at before signal value
    → ranged ≡ is_expect before → why_value k signal (signal_field c signal) ranged value ≡ why_at c k fs at
why-cut c k fs at before signal value ranged cut e =
    ap (λ f. why_value k f (signal_field c f) ranged value) (sym cut.field)
    ∙ ap (λ r. why_value k (slice_index_or fs at []) (signal_field c (slice_index_or fs at [])) r value) (e ∙ ap is_expect (sym cut.before))
    ∙ ap (why_value k (slice_index_or fs at []) (signal_field c (slice_index_or fs at [])) (is_expect (take at fs))) (sym cut.after)
