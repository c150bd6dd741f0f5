-- The values that words say, all of them, by the spans and the coded value of raw values.
use Rattle.std.proofs.Common.{◌≡◌, ◌<◌, ◌≤◌, ◌+◌, ◌-◌, ◌^◌, ℕ, zero, suc, Bool, true, false, cond, not, ◌&&◌, ◌||◌, ℤ, List, [], ◌∷◌, ◌++◌, map, length, refl, sym, ap, ◌∙◌, inl, inr, arith}
use Rattle.std.specs.Prelude.{◌==◌, ◌/◌, Option, Some, None, filter, min, nat_le, nat_lt}
use Rattle.std.specs.List.{list_all, list_any, range_with_len}
use Rattle.std.specs.Option.{option_map_or, option_to_list}
use Rattle.std.proofs.Math.Pow.{pow_mono}
use Rattle.std.proofs.lemmas.Bool.{cases_lt, eq-eqb}
use Rattle.std.proofs.lemmas.Bool.Decides.{nat_tests}
use Rattle.std.proofs.lemmas.List.{append-nil, map-append}
use Rattle.std.proofs.lemmas.List.Elements.{filter-append, filter_agree}
use Rattle.std.proofs.lemmas.List.Folds.{list_any-append}
use Rattle.std.proofs.lemmas.Map.Views.{any-filter_same}
use Rattle.lin_frame.specs.declared.value.Value.{Value}
use Rattle.lin_frame.specs.declared.value.Value.TheVariants.{Scalar, Bytes}
use Rattle.lin_values.specs.Coded.{signal_at, CodedData}
use Rattle.lin_values.specs.Meaning.{meaning}
use Rattle.lin_values.specs.Raws.{array_spelled, has, has_raw, value_has_text, is_decimal_within, is_value, raws_of, raws_within, same_raw, scalars, values_of, RawsData}
use Rattle.lin_values.specs.Warnings.{greatest_raw}
use Rattle.lin_values.specs.declared.layers.Span.{Span}
use Rattle.lin_values.proofs.CodedAgain.{turned}
use Rattle.lin_values.proofs.OnlyRaw.{same-value, value-same}
use Rattle.lin_values.proofs.WaysBack.{array-fails, decimal-numeric}
use Rattle.lin_bench.specs.Meant.{all_scalars, is_among_values, is_array, scalar_count, values_in, values_within, AreSmall}
use Rattle.lin_bench.proofs.SpelledArrays.{array_bytes, one-array}

-- ---- scalars that pass a test

none-pass : (p : Value → Bool) (a n : ℕ) → ((i : ℕ) → a ≤ i → p (Scalar i) ≡ false) → filter p (map Scalar (range_with_len a n)) ≡ []
none-pass p a zero none = refl
none-pass p a (suc n) none =
    let rest : List Value = filter p (map Scalar (range_with_len (a + 1) n)) in
    ap (λ b. cond b (Scalar a ∷ rest) rest) (none a (omega arith)) ∙ none-pass p (a + 1) n (λ i le. none i (omega arith))

pub range-split : (a n d : ℕ) → range_with_len a (n + d) ≡ range_with_len a n ++ range_with_len (a + n) d
range-split a zero d =
    let e : zero + d ≡ d = omega arith in
    let f : a + zero ≡ a = omega arith in
    ap (range_with_len a) e ∙ sym (ap (λ i. range_with_len i d) f)
range-split a (suc n) d =
    let e : suc n + d ≡ suc (n + d) = omega arith in
    let f : a + 1 + n ≡ a + suc n = omega arith in
    ap (range_with_len a) e ∙ ap (λ xs. a ∷ xs) (range-split (a + 1) n d ∙ ap (λ i. range_with_len (a + 1) n ++ range_with_len i d) f)

pass-below : (p : Value → Bool) (m n : ℕ) → m ≤ n → ((i : ℕ) → m ≤ i → p (Scalar i) ≡ false)
    → filter p (map Scalar (range_with_len 0 n)) ≡ filter p (map Scalar (range_with_len 0 m))
pass-below p m n le none =
    let e : n ≡ m + (n - m) = omega arith in
    let below : List ℕ = range_with_len 0 m in
    let above : List ℕ = range_with_len (0 + m) (n - m) in
    ap (λ i. filter p (map Scalar (range_with_len 0 i))) e
    ∙ ap (λ xs. filter p (map Scalar xs)) (range-split 0 m (n - m))
    ∙ ap (filter p) (map-append Scalar below above)
    ∙ filter-append p (map Scalar below) (map Scalar above)
    ∙ ap (λ xs. filter p (map Scalar below) ++ xs) (none-pass p (0 + m) (n - m) (λ i h. none i (omega arith)))
    ∙ append-nil (filter p (map Scalar below))

pub scalars-counted : scalar_count ≡ 65536
unfolding scalar_count
scalars-counted = refl

-- ---- of a signal

abbrev tested : CodedData → ℕ → (Value → Bool) → Value → Bool
tested k s t v = is_value k s v && t v

most-small : (bits : ℕ) → greatest_raw bits < 65536
most-small bits =
    let h : 2 ^ min bits 16 ≤ 2 ^ 16 = pow_mono {j = 16} (omega arith) in
    omega arith

second-fails : (a b c : Bool) → b ≡ false → (a && b) && c ≡ false
second-fails true b c e = ap (λ x. x && c) e
second-fails false b c e = refl

great-value : (k : CodedData) (s : ℕ) (t : Value → Bool) (i : ℕ) → greatest_raw (signal_at k s).bits + 1 ≤ i → tested k s t (Scalar i) ≡ false
great-value k s t i le =
    let no : nat_le i (greatest_raw (signal_at k s).bits) ≡ false = grind (arith, nat_tests) in
    second-fails (not (signal_at k s).is_array) (nat_le i (greatest_raw (signal_at k s).bits)) (t (Scalar i)) no

scalars-tested : (k : CodedData) (s : ℕ) (t : Value → Bool) → filter (tested k s t) all_scalars ≡ filter (tested k s t) (map Scalar (scalars k s))
scalars-tested k s t =
    let lt : greatest_raw (signal_at k s).bits < 65536 = most-small (signal_at k s).bits in
    let n : scalar_count ≡ 65536 = scalars-counted in
    pass-below (tested k s t) (greatest_raw (signal_at k s).bits + 1) scalar_count (omega arith) (great-value k s t)

no-scalars : (k : CodedData) (s : ℕ) (t : Value → Bool) → (signal_at k s).is_array ≡ true → filter (tested k s t) all_scalars ≡ []
no-scalars k s t e =
    none-pass (tested k s t) 0 scalar_count (λ i h. ap (λ b. (not b && nat_le i (greatest_raw (signal_at k s).bits)) && t (Scalar i)) e)

first-fails : (a b c : Bool) → a ≡ false → (a && b) && c ≡ false
first-fails true b c e = absurd (let no : true ≡ false = e in cc)
first-fails false b c e = refl

no-bytes : (k : CodedData) (s : ℕ) (t : Value → Bool) (bs : List ℕ) → (signal_at k s).is_array ≡ false → tested k s t (Bytes bs) ≡ false
no-bytes k s t bs e =
    let bounded : Bool = length bs == (signal_at k s).bits / 8 && (nat_le (length bs) 8 && list_all (λ b. nat_lt b 256) bs) in
    first-fails (signal_at k s).is_array (not (signal_at k s).is_wide && bounded) (t (Bytes bs)) e

-- ---- the coded value

-- an array that is coded is had
bytes-had : (spans : List Span) (bs : List ℕ) → has_raw spans (Some (Bytes bs)) (Bytes bs) ≡ true
bytes-had spans bs = ap (λ b. b || false) (value-same (Bytes bs))

arrays-none : (spans : List Span) (coded : Option Value) → ((bs : List ℕ) → has_raw spans coded (Bytes bs) ≡ false) → filter is_array (option_to_list coded) ≡ []
arrays-none spans None none = refl
arrays-none spans (Some (Scalar n)) none = refl
arrays-none spans (Some (Bytes bs)) none = absurd (let no : true ≡ false = sym (bytes-had spans bs) ∙ none bs in cc)

abbrev passing : (Value → Bool) → Value → List Value
passing p v = filter p (v ∷ [])

passed : (p : Value → Bool) (v : Value) (b : Bool) → p v ≡ b → passing p v ≡ cond b (v ∷ []) []
passed p v b e = ap (λ x. cond x (v ∷ []) []) e

-- of arrays the one that passes, where a single one can
arrays-one : (spans : List Span) (coded : Option Value) (p : Value → Bool) (xs : List ℕ) → ((v : Value) → has_raw spans coded v ≡ p v)
    → ((bs : List ℕ) → p (Bytes bs) ≡ true → bs ≡ xs) → filter is_array (option_to_list coded) ≡ passing p (Bytes xs)
arrays-one spans None p xs same one = sym (passed p (Bytes xs) false (sym (same (Bytes xs))))
arrays-one spans (Some (Scalar n)) p xs same one = sym (passed p (Bytes xs) false (sym (same (Bytes xs))))
arrays-one spans (Some (Bytes bs)) p xs same one =
    let here : p (Bytes bs) ≡ true = sym (same (Bytes bs)) ∙ bytes-had spans bs in
    let e : bs ≡ xs = one bs here in
    ap (λ ys. Bytes ys ∷ []) e ∙ sym (passed p (Bytes xs) true (ap (λ ys. p (Bytes ys)) (sym e) ∙ here))

-- ---- all values

pub text-values : (r : RawsData) (k : CodedData) (s : ℕ) (text : List ℕ) → ((v : Value) → has r v ≡ raws_of k s text v) → values_in r ≡ values_of k s text
text-values r k s text same =
    let t : Value → Bool = λ v. option_map_or (value_has_text k s text v) (meaning k s v) false in
    let spelled : Value = array_spelled (signal_at k s).bits text in
    let array : Bool = (signal_at k s).is_array in
    ap (λ xs. xs ++ filter is_array (option_to_list r.coded)) (filter_agree (has r) (tested k s t) same all_scalars)
    ∙ elim array as (λ a. array ≡ a → filter (tested k s t) all_scalars ++ filter is_array (option_to_list r.coded)
    ≡ filter (tested k s t) (cond a (spelled ∷ []) (map Scalar (scalars k s)))) [
      | true ↦ λ e. ap (λ xs. xs ++ filter is_array (option_to_list r.coded)) (no-scalars k s t e)
          ∙ arrays-one r.spans r.coded (tested k s t) (array_bytes (signal_at k s).bits text) same (λ bs h. (let one : Bytes bs ≡ spelled = one-array k s text bs h in cc))
      | false ↦ λ e. ap (λ xs. xs ++ filter is_array (option_to_list r.coded)) (scalars-tested k s t)
          ∙ ap (λ xs. filter (tested k s t) (map Scalar (scalars k s)) ++ xs) (arrays-none r.spans r.coded (λ bs. same (Bytes bs) ∙ no-bytes k s t bs e))
          ∙ append-nil (filter (tested k s t) (map Scalar (scalars k s)))
    ] refl

pub within-values : (r : RawsData) (k : CodedData) (s : ℕ) (low high : ℤ) (unit : List ℕ) → ((v : Value) → has r v ≡ raws_within k s low high unit v)
    → values_in r ≡ values_within k s low high unit
within-values r k s low high unit same =
    let t : Value → Bool = λ v. option_map_or (is_decimal_within low high unit) (meaning k s v) false in
    ap (λ xs. xs ++ filter is_array (option_to_list r.coded)) (filter_agree (has r) (tested k s t) same all_scalars ∙ scalars-tested k s t)
    ∙ ap (λ xs. filter (tested k s t) (map Scalar (scalars k s)) ++ xs)
    (arrays-none r.spans r.coded (λ bs. same (Bytes bs) ∙ array-fails (is_decimal_within low high unit) (decimal-numeric low high unit) k s bs))
    ∙ append-nil (filter (tested k s t) (map Scalar (scalars k s)))

small-value : (k : CodedData) (s : ℕ) (t : Value → Bool) (n : ℕ) → tested k s t (Scalar n) ≡ true → n < 65536
small-value k s t n e =
    let lt : greatest_raw (signal_at k s).bits < 65536 = most-small (signal_at k s).bits in
    elim (cases_lt n (greatest_raw (signal_at k s).bits + 1)) [
      | inl below ↦ omega arith
      | inr above ↦ absurd (let no : true ≡ false = sym e ∙ great-value k s t n above in cc)
    ]

pub text-small : (r : RawsData) (k : CodedData) (s : ℕ) (text : List ℕ) → ((v : Value) → has r v ≡ raws_of k s text v) → AreSmall r
text-small r k s text same n e = small-value k s (λ v. option_map_or (value_has_text k s text v) (meaning k s v) false) n (sym (same (Scalar n)) ∙ e)

pub within-small : (r : RawsData) (k : CodedData) (s : ℕ) (low high : ℤ) (unit : List ℕ) → ((v : Value) → has r v ≡ raws_within k s low high unit v) → AreSmall r
within-small r k s low high unit same n e = small-value k s (λ v. option_map_or (is_decimal_within low high unit) (meaning k s v) false) n (sym (same (Scalar n)) ∙ e)

pub same-range : (r : RawsData) (k : CodedData) (s : ℕ) (low high from to : ℤ) (unit : List ℕ) → from ≡ low → to ≡ high
    → ((v : Value) → has r v ≡ raws_within k s from to unit v) → (v : Value) → has r v ≡ raws_within k s low high unit v
same-range r k s low high from to unit e f same v =
    same v
    ∙ ap (λ (z : ℤ). raws_within k s z to unit v) e
    ∙ ap (λ (z : ℤ). raws_within k s low z unit v) f

-- ---- whether a value is among them

no-array : (bs : List ℕ) (p : Value → Bool) (ns : List ℕ) → list_any (same_raw (Bytes bs)) (filter p (map Scalar ns)) ≡ false
no-array bs p [] = refl
no-array bs p (n ∷ ns) = elim (p (Scalar n)) as (λ b. list_any (same_raw (Bytes bs)) (cond b (Scalar n ∷ filter p (map Scalar ns)) (filter p (map Scalar ns))) ≡ false) [
  | true ↦ no-array bs p ns
  | false ↦ no-array bs p ns
]

no-scalar : (n : ℕ) (coded : Option Value) → list_any (same_raw (Scalar n)) (filter is_array (option_to_list coded)) ≡ false
no-scalar n None = refl
no-scalar n (Some (Scalar m)) = refl
no-scalar n (Some (Bytes bs)) = refl

array-among : (bs : List ℕ) (spans : List Span) (coded : Option Value) → has_raw spans coded (Bytes bs) ≡ list_any (same_raw (Bytes bs)) (filter is_array (option_to_list coded))
array-among bs spans None = refl
array-among bs spans (Some (Scalar m)) = refl
array-among bs spans (Some (Bytes cs)) = ap (λ b. b || false) (turned cs bs)

one-of : (n a m : ℕ) → a ≤ n → n < a + m → list_any (same_raw (Scalar n)) (map Scalar (range_with_len a m)) ≡ true
one-of n a zero low high = absurd (omega arith)
one-of n a (suc m) low high = elim (cases_lt a n) [
  | inl lt ↦ elim (n == a) as (λ b. (b || list_any (same_raw (Scalar n)) (map Scalar (range_with_len (a + 1) m))) ≡ true) [
    | true ↦ refl
    | false ↦ one-of n (a + 1) m (omega arith) (omega arith)
  ]
  | inr le ↦ (let e : n ≡ a = omega arith in ap (λ b. b || list_any (same_raw (Scalar n)) (map Scalar (range_with_len (a + 1) m))) (eq-eqb n a e))
]

scalar-test : (r : RawsData) (n : ℕ) (k : Value) → same_raw (Scalar n) k ≡ true → has r k ≡ has r (Scalar n)
scalar-test r n k e = ap (has r) (sym (same-value (Scalar n) k e))

scalar-among : (r : RawsData) (n : ℕ) (b : Bool) → AreSmall r → has r (Scalar n) ≡ b → b && list_any (same_raw (Scalar n)) all_scalars ≡ b
scalar-among r n true small e =
    let lt : n < 65536 = small n e in
    let c : scalar_count ≡ 65536 = scalars-counted in
    one-of n 0 scalar_count (omega arith) (omega arith)
scalar-among r n false small e = refl

or-none : (a b : Bool) → b ≡ false → (a || b) ≡ a
or-none true b e = refl
or-none false b e = e

pub among : (r : RawsData) (v : Value) → AreSmall r → has r v ≡ is_among_values (values_in r) v
among r (Scalar n) small =
    let test : Value → Bool = same_raw (Scalar n) in
    let found : Bool = list_any test (filter (has r) all_scalars) in
    sym (
    list_any-append test (filter (has r) all_scalars) (filter is_array (option_to_list r.coded))
    ∙ or-none found (list_any test (filter is_array (option_to_list r.coded))) (no-scalar n r.coded)
    ∙ any-filter_same test (has r) (has r (Scalar n)) (scalar-test r n) all_scalars
    ∙ scalar-among r n (has r (Scalar n)) small refl)
among r (Bytes bs) small =
    let test : Value → Bool = same_raw (Bytes bs) in
    array-among bs r.spans r.coded
    ∙ sym (
    list_any-append test (filter (has r) all_scalars) (filter is_array (option_to_list r.coded))
    ∙ ap (λ b. b || list_any test (filter is_array (option_to_list r.coded))) (no-array bs (has r) (range_with_len 0 scalar_count)))
