-- The values that words of an expectation say, by their forms.
use mir.Syntax.{w128}
use mir.Val.{SFits, of_z, to_z}
use Rattle.std.proofs.Common.{◌≡◌, ◌∙◌, ◌<◌, ◌^◌, ℕ, ℤ, pos, negsuc, ◌+ℤ◌, ◌-ℤ◌, List, [], ◌∷◌, refl, sym, ap, arith, length, Ok, Err, Result}
use Rattle.std.specs.Prelude.{unsigned_abs}
use Rattle.std.proofs.lemmas.Int.{ints, to_z-of_z}
use Rattle.lin_values.specs.Coded.{CodedData}
use Rattle.lin_frame.specs.declared.value.Value.{Value}
use Rattle.lin_bench.specs.Fields.{◌>>=◌}
use Rattle.lin_bench.specs.Words.{around, values_between, decimal_field, decimal_fields, some_values}
use Rattle.lin_bench.specs.declared.reason.Reason.{Reason}

-- ---- values, if there are some

pub some-values : (why : Reason) (vs : List Value) → 0 < length vs → some_values why vs ≡ Ok vs
some-values why [] h = absurd (omega arith)
some-values why (v ∷ vs) h = refl

pub no-values : (why : Reason) (vs : List Value) → length vs ≡ 0 → some_values why vs ≡ Err why
no-values why [] h = refl
no-values why (v ∷ vs) h = absurd (omega arith)

-- ---- a decimal, give or take a tolerance

abbrev IsSmall : ℤ → Type 0
IsSmall z = unsigned_abs z < 10 ^ 33

fits : (z : ℤ) → unsigned_abs z < 10 ^ 34 → SFits w128 z
fits (pos a) h = omega (arith, ints)
fits (negsuc a) h = omega (arith, ints)

kept : (z : ℤ) → unsigned_abs z < 10 ^ 34 → to_z w128 (of_z w128 z) ≡ z
kept z h = to_z-of_z w128 z (fits z h)

small-sum : (z t : ℤ) → IsSmall z → IsSmall t → unsigned_abs (z +ℤ t) < 10 ^ 34
small-sum (pos a) (pos b) h k = omega (arith, ints)
small-sum (pos a) (negsuc b) h k = omega (arith, ints)
small-sum (negsuc a) (pos b) h k = omega (arith, ints)
small-sum (negsuc a) (negsuc b) h k = omega (arith, ints)

small-difference : (z t : ℤ) → IsSmall z → IsSmall t → unsigned_abs (z -ℤ t) < 10 ^ 34
small-difference (pos a) (pos b) h k = omega (arith, ints)
small-difference (pos a) (negsuc b) h k = omega (arith, ints)
small-difference (negsuc a) (pos b) h k = omega (arith, ints)
small-difference (negsuc a) (negsuc b) h k = omega (arith, ints)

abbrev cast : ℤ → ℤ
cast z = to_z w128 (of_z w128 z)

around-by : (k : CodedData) (s : ℕ) (field text f : List ℕ) (fs : List (List ℕ)) (z : ℤ) (t : ℤ × List ℕ) → decimal_field f ≡ Ok z → decimal_fields fs ≡ Ok t
    → around k s field text f fs ≡ values_between k s field text (z -ℤ t.0) (z +ℤ t.0) t.1
around-by k s field text f fs z t e g =
    ap (λ (r : Result ℤ Reason). r >>= (λ y. decimal_fields fs >>= (λ u. values_between k s field text (y -ℤ u.0) (y +ℤ u.0) u.1))) e
    ∙ ap (λ (r : Result (ℤ × List ℕ) Reason). r >>= (λ u. values_between k s field text (z -ℤ u.0) (z +ℤ u.0) u.1)) g

pub around-is : (k : CodedData) (s : ℕ) (field text f : List ℕ) (fs : List (List ℕ)) (z t : ℤ) (unit : List ℕ) → IsSmall z → IsSmall t
    → decimal_field f ≡ Ok z → decimal_fields fs ≡ Ok (t, unit)
    → values_between k s field text (cast (cast z -ℤ cast t)) (cast (cast z +ℤ cast t)) unit ≡ around k s field text f fs
around-is k s field text f fs z t unit h g e d =
    let zs : unsigned_abs z < 10 ^ 34 = omega arith in
    let ts : unsigned_abs t < 10 ^ 34 = omega arith in
    let low : cast (cast z -ℤ cast t) ≡ z -ℤ t =
    ap (λ x. cast (x -ℤ cast t)) (kept z zs) ∙ ap (λ x. cast (z -ℤ x)) (kept t ts) ∙ kept (z -ℤ t) (small-difference z t h g) in
    let high : cast (cast z +ℤ cast t) ≡ z +ℤ t =
    ap (λ x. cast (x +ℤ cast t)) (kept z zs) ∙ ap (λ x. cast (z +ℤ x)) (kept t ts) ∙ kept (z +ℤ t) (small-sum z t h g) in
    ap (λ x. values_between k s field text x (cast (cast z +ℤ cast t)) unit) low
    ∙ ap (λ x. values_between k s field text (z -ℤ t) x unit) high
    ∙ sym (around-by k s field text f fs z (t, unit) e d)
