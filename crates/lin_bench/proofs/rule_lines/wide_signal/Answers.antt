use Rattle.std.proofs.Common.{◌≡◌, ◌∙◌, ◌+◌, ◌<◌, ◌∷◌, ℕ, suc, Bool, true, false, List, Some, add-one, ap, drop, drop-cons, get_or, length, refl, subst, sym}
use Rattle.std.specs.Prelude.{find, nat_lt, option_map}
use Rattle.std.proofs.lemmas.Bool.{le-ltb, lt-ltb}
use Rattle.lin_parts.specs.declared.parts.ErrorSignal.{ErrorSignal}
use Rattle.lin_bench.specs.RuleLines.{has_several_bits}
use Rattle.lin_bench.proofs.rule_lines.wide_signal.Goals as goal

here : {A : Type 0} (xs : List A) (i : ℕ) (x : A) → i < length xs → x ≡ get_or xs i x → drop i xs ≡ x ∷ drop (i + 1) xs
here xs i x h at = drop-cons xs i x h ∙ ap (λ y. y ∷ drop (suc i) xs) (sym at) ∙ ap (λ j. x ∷ drop j xs) (sym (add-one i))

found : {A : Type 0} (p : A → Bool) (x : A) (xs : List A) → p x ≡ true → find p (x ∷ xs) ≡ Some x
found p x xs is = rw is refl

passed : {A : Type 0} (p : A → Bool) (x : A) (xs : List A) → p x ≡ false → find p (x ∷ xs) ≡ find p xs
passed p x xs is = rw is refl

found-at : {A : Type 0} (p : A → Bool) (all xs : List A) (i : ℕ) (x : A) → xs ≡ all → i < length xs → x ≡ get_or xs i x → find p all ≡ find p (drop i all)
    → p x ≡ true → find p all ≡ Some x
found-at p all xs i x same h at before is =
    before ∙ ap (find p) (here all i x (subst (λ l. i < length l) same h) (at ∙ ap (λ l. get_or l i x) same)) ∙ found p x (drop (i + 1) all) is

passed-at : {A : Type 0} (p : A → Bool) (all xs : List A) (i : ℕ) (x : A) → xs ≡ all → i < length xs → x ≡ get_or xs i x → find p all ≡ find p (drop i all)
    → p x ≡ false → find p all ≡ find p (drop (i + 1) all)
passed-at p all xs i x same h at before is =
    before ∙ ap (find p) (here all i x (subst (λ l. i < length l) same h) (at ∙ ap (λ l. get_or l i x) same)) ∙ passed p x (drop (i + 1) all) is

pub returns-then-signal_size-gt1-clause-wide : goal.returns-then-signal_size-gt1-clause-wide
returns-then-signal_size-gt1-clause-wide c =
    let k = c.args.cluster.now in
    let e = c.error-item.result in
    let is : has_several_bits k e ≡ true = subst (λ n. nat_lt 1 n ≡ true) c.signal_size.ensures (lt-ltb 1 c.signal_size.result c.if-signal_size-gt1.true) in
    sym (ap (option_map (λ (e : ErrorSignal). e.signal))
    (found-at (has_several_bits k) k.errors _ c.loop-error.error-index e c.error_signals-error-items.ensures c.loop-error-test.true c.error-item.is c.loop-error.invariant is))

pub loop-error-preserved : goal.loop-error-preserved
loop-error-preserved c =
    let k = c.args.cluster.now in
    let e = c.error-item.result in
    let is : has_several_bits k e ≡ false = subst (λ n. nat_lt 1 n ≡ false) c.signal_size.ensures (le-ltb 1 c.signal_size.result c.if-signal_size-gt1.false) in
    passed-at (has_several_bits k) k.errors _ c.loop-error.error-index e c.error_signals-error-items.ensures c.loop-error-test.true c.error-item.is c.loop-error.invariant is
