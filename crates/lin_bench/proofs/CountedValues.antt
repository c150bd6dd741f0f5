-- How many values words say.
use Rattle.std.proofs.Common.{◌≡◌, ◌<◌, ◌≤◌, ◌+◌, ◌-◌, ℕ, zero, suc, Bool, true, false, cond, ◌&&◌, ◌||◌, ◌⊎◌, ◌≢◌, List, [], ◌∷◌, ◌++◌, map, length, refl, sym, ap, ◌∙◌, inl, inr, arith}
use Rattle.std.specs.Prelude.{◌==◌, IfSome, All, AllPairs, Option, Some, None, filter, nat_le, sum_by}
use Rattle.std.specs.List.{list_any, range_with_len}
use Rattle.std.specs.Option.{option_map_or, option_to_list}
use Rattle.std.proofs.lemmas.Bool.{eqb-true}
use Rattle.std.proofs.lemmas.Bool.Decides.{nat_tests}
use Rattle.std.proofs.lemmas.List.{length-append}
use Rattle.std.proofs.lemmas.List.Elements.{All-head, All-tail, All-weaker}
use Rattle.std.proofs.lemmas.List.Folds.{list_any_none}
use Rattle.std.proofs.lemmas.List.Sums.{sum_by-cons}
use Rattle.lin_parts.proofs.Pairs.{pairs-first, pairs-rest}
use Rattle.lin_frame.specs.declared.value.Value.{Value}
use Rattle.lin_frame.specs.declared.value.Value.TheVariants.{Scalar, Bytes}
use Rattle.lin_values.specs.Layers.{in_span, IsBefore, IsSomeSpan}
use Rattle.lin_values.specs.Raws.{count_of, has, has_raw, in_spans, same_raw, AreRaws, RawsData}
use Rattle.lin_values.specs.declared.layers.Span.{Span}
use Rattle.lin_values.proofs.OnlyRaw.{same-value, value-same}
use Rattle.lin_bench.specs.Meant.{all_scalars, is_among_values, is_array, only_one, scalar_count, values_in, AreSmall}
use Rattle.lin_bench.proofs.AllValues.{among, range-split, scalars-counted}

-- ---- how many pass a test

abbrev how_many : {X : Type 0} → (X → Bool) → List X → ℕ
how_many p [] = 0
how_many p (x ∷ xs) = cond (p x) (1 + how_many p xs) (how_many p xs)

count-filter : {X : Type 0} (p : X → Bool) (xs : List X) → length (filter p xs) ≡ how_many p xs
count-filter p [] = refl
count-filter p (x ∷ xs) =
    let rest : length (filter p xs) ≡ how_many p xs = count-filter p xs in
    elim (p x) as (λ b. length (cond b (x ∷ filter p xs) (filter p xs)) ≡ cond b (1 + how_many p xs) (how_many p xs)) [
      | true ↦ omega arith
      | false ↦ rest
    ]

count-agree : {X : Type 0} (p q : X → Bool) → ((x : X) → p x ≡ q x) → (xs : List X) → how_many p xs ≡ how_many q xs
count-agree p q same [] = refl
count-agree p q same (x ∷ xs) =
    ap (λ b. cond b (1 + how_many p xs) (how_many p xs)) (same x)
    ∙ ap (λ n. cond (q x) (1 + n) n) (count-agree p q same xs)

count-append : {X : Type 0} (p : X → Bool) (xs ys : List X) → how_many p (xs ++ ys) ≡ how_many p xs + how_many p ys
count-append p [] ys = omega arith
count-append p (x ∷ xs) ys =
    let rest : how_many p (xs ++ ys) ≡ how_many p xs + how_many p ys = count-append p xs ys in
    elim (p x) as (λ b. cond b (1 + how_many p (xs ++ ys)) (how_many p (xs ++ ys)) ≡ cond b (1 + how_many p xs) (how_many p xs) + how_many p ys) [
      | true ↦ omega arith
      | false ↦ rest
    ]

count-scalars : (p : Value → Bool) (ns : List ℕ) → how_many p (map Scalar ns) ≡ how_many (λ n. p (Scalar n)) ns
count-scalars p [] = refl
count-scalars p (n ∷ ns) = ap (λ m. cond (p (Scalar n)) (1 + m) m) (count-scalars p ns)

count-either : (p q : ℕ → Bool) → ((n : ℕ) → p n ≡ true → q n ≡ false) → (ns : List ℕ) → how_many (λ n. p n || q n) ns ≡ how_many p ns + how_many q ns
count-either p q apart [] = omega arith
count-either p q apart (n ∷ ns) =
    let rest : how_many (λ m. p m || q m) ns ≡ how_many p ns + how_many q ns = count-either p q apart ns in
    let whole : ℕ = how_many (λ m. p m || q m) ns in
    elim (p n) as (λ b. (b ≡ true → q n ≡ false) → cond (b || q n) (1 + whole) whole ≡ cond b (1 + how_many p ns) (how_many p ns) + cond (q n) (1 + how_many q ns) (how_many q ns)) [
      | true ↦ λ h. (
          let first : 1 + whole ≡ (1 + how_many p ns) + how_many q ns = omega arith in
          first ∙ ap (λ b. (1 + how_many p ns) + cond b (1 + how_many q ns) (how_many q ns)) (sym (h refl)))
      | false ↦ λ h. elim (q n) as (λ b. cond b (1 + whole) whole ≡ how_many p ns + cond b (1 + how_many q ns) (how_many q ns)) [
        | true ↦ omega arith
        | false ↦ rest
      ]
    ] (apart n)

count-none : (p : ℕ → Bool) (a m : ℕ) → ((n : ℕ) → a ≤ n → n < a + m → p n ≡ false) → how_many p (range_with_len a m) ≡ 0
count-none p a zero none = refl
count-none p a (suc m) none =
    let rest : ℕ = how_many p (range_with_len (a + 1) m) in
    ap (λ b. cond b (1 + rest) rest) (none a (omega arith) (omega arith)) ∙ count-none p (a + 1) m (λ n low high. none n (omega arith) (omega arith))

count-all : (p : ℕ → Bool) (a m : ℕ) → ((n : ℕ) → a ≤ n → n < a + m → p n ≡ true) → how_many p (range_with_len a m) ≡ m
count-all p a zero every = refl
count-all p a (suc m) every =
    let rest : ℕ = how_many p (range_with_len (a + 1) m) in
    let more : rest ≡ m = count-all p (a + 1) m (λ n low high. every n (omega arith) (omega arith)) in
    let one : 1 + rest ≡ suc m = omega arith in
    ap (λ b. cond b (1 + rest) rest) (every a (omega arith) (omega arith)) ∙ one

-- ---- the numbers of a span, and of spans

outside : (s : Span) (n : ℕ) → n < s.from → in_span s n ≡ false
outside s n h = grind (arith, nat_tests)

beyond : (s : Span) (n : ℕ) → s.to + 1 ≤ n → in_span s n ≡ false
beyond s n h = grind (arith, nat_tests)

inside : (s : Span) (n : ℕ) → s.from ≤ n → n < s.to + 1 → in_span s n ≡ true
inside s n low high = grind (arith, nat_tests)

count-span : (s : Span) (m : ℕ) → s.from ≤ s.to → s.to < m → how_many (in_span s) (range_with_len 0 m) ≡ s.to + 1 - s.from
count-span s m some lt =
    let own : ℕ = s.to + 1 - s.from in
    let left : ℕ = m - (s.to + 1) in
    let e : m ≡ s.from + (own + left) = omega arith in
    let low : List ℕ = range_with_len 0 s.from in
    let mid : List ℕ = range_with_len (0 + s.from) own in
    let high : List ℕ = range_with_len (0 + s.from + own) left in
    let parts : range_with_len 0 m ≡ low ++ (mid ++ high) =
    ap (range_with_len 0) e ∙ range-split 0 s.from (own + left) ∙ ap (λ xs. low ++ xs) (range-split (0 + s.from) own left) in
    let a : how_many (in_span s) low ≡ 0 = count-none (in_span s) 0 s.from (λ n l h. outside s n (omega arith)) in
    let b : how_many (in_span s) mid ≡ own = count-all (in_span s) (0 + s.from) own (λ n l h. inside s n (omega arith) (omega arith)) in
    let c : how_many (in_span s) high ≡ 0 = count-none (in_span s) (0 + s.from + own) left (λ n l h. beyond s n (omega arith)) in
    let d : how_many (in_span s) (low ++ (mid ++ high)) ≡ how_many (in_span s) low + how_many (in_span s) (mid ++ high) = count-append (in_span s) low (mid ++ high) in
    let f : how_many (in_span s) (mid ++ high) ≡ how_many (in_span s) mid + how_many (in_span s) high = count-append (in_span s) mid high in
    ap (how_many (in_span s)) parts ∙ (let g : how_many (in_span s) (low ++ (mid ++ high)) ≡ own = omega arith in g)

abbrev in-any : List Span → ℕ → Bool
in-any ss n = list_any (λ s. in_span s n) ss

later : (s t : Span) (n : ℕ) → in_span s n ≡ true → IsBefore s t → in_span t n ≡ false
later s t n h before = let lt : s.to < t.from = before in grind (arith, nat_tests)

all-later : (s : Span) (ss : List Span) (n : ℕ) → All (IsBefore s) ss → in_span s n ≡ true → in-any ss n ≡ false
all-later s ss n before h = list_any_none (λ t. in_span t n) ss (All-weaker (IsBefore s) (λ t. in_span t n ≡ false) (λ t b. later s t n h b) ss before)

count-spans : (ss : List Span) (m : ℕ) → m ≡ 65536 → All IsSomeSpan ss → AllPairs IsBefore ss → how_many (in-any ss) (range_with_len 0 m) ≡ sum_by (λ s. s.to + 1 - s.from) ss
count-spans [] m e some ordered = count-none (λ n. false) 0 m (λ n l h. refl)
count-spans (s ∷ ss) m e some ordered =
    let here : IsSomeSpan s = All-head IsSomeSpan s ss some in
    let size : Span → ℕ = λ t. t.to + 1 - t.from in
    let ns : List ℕ = range_with_len 0 m in
    let one : how_many (in_span s) ns ≡ size s = count-span s m here.0 (let lt : s.to < 65536 = here.1 in omega arith) in
    let rest : how_many (in-any ss) ns ≡ sum_by size ss = count-spans ss m e (All-tail IsSomeSpan s ss some) (pairs-rest IsBefore s ss ordered) in
    let both : how_many (in-any (s ∷ ss)) ns ≡ how_many (in_span s) ns + how_many (in-any ss) ns =
    count-either (in_span s) (in-any ss) (λ n h. all-later s ss n (pairs-first IsBefore s ss ordered) h) ns in
    let whole : sum_by size (s ∷ ss) ≡ size s + sum_by size ss = sum_by-cons size s ss in
    (let done : how_many (in-any (s ∷ ss)) ns ≡ sum_by size (s ∷ ss) = omega arith in done)

-- ---- with the coded value

abbrev number-span : ℕ → Span
number-span n = record { from = n; to = n }

is-number : (i n : ℕ) → (i == n) ≡ in_span (number-span i) n
is-number i n = elim (i == n) as (λ b. (i == n) ≡ b → b ≡ in_span (number-span i) n) [
  | true ↦ λ e. (let same : i ≡ n = eqb-true i n e in grind (arith, nat_tests))
  | false ↦ λ e. grind (arith, nat_tests)
] refl

other-number : (i n : ℕ) (spans : List Span) → in-any spans i ≡ false → (i == n) ≡ true → in-any spans n ≡ false
other-number i n spans none e = ap (in-any spans) (sym (eqb-true i n e)) ∙ none

counted-by : (spans : List Span) (coded : Option Value) → AreRaws spans coded → ((n : ℕ) → has_raw spans coded (Scalar n) ≡ true → n < 65536)
    → count_of spans coded ≡ how_many (has_raw spans coded) all_scalars + length (filter is_array (option_to_list coded))
counted-by spans None raws small =
    let all : how_many (has_raw spans None) all_scalars ≡ sum_by (λ s. s.to + 1 - s.from) spans =
    count-scalars (has_raw spans None) (range_with_len 0 scalar_count) ∙ count-spans spans scalar_count scalars-counted raws.some raws.ordered in
    omega arith
counted-by spans (Some (Bytes bs)) raws small =
    let all : how_many (has_raw spans (Some (Bytes bs))) all_scalars ≡ sum_by (λ s. s.to + 1 - s.from) spans =
    count-scalars (has_raw spans (Some (Bytes bs))) (range_with_len 0 scalar_count) ∙ count-spans spans scalar_count scalars-counted raws.some raws.ordered in
    omega arith
counted-by spans (Some (Scalar i)) raws small =
    let ns : List ℕ = range_with_len 0 scalar_count in
    let same : has_raw spans (Some (Scalar i)) (Scalar i) ≡ true = ap (λ b. b || in_spans spans (Scalar i)) (value-same (Scalar i)) in
    let lt : i < 65536 = small i same in
    let c : scalar_count ≡ 65536 = scalars-counted in
    let one : how_many (λ n. i == n) ns ≡ i + 1 - i = count-agree (λ n. i == n) (in_span (number-span i)) (is-number i) ns ∙ count-span (number-span i) scalar_count (omega arith) (omega arith) in
    let rest : how_many (in-any spans) ns ≡ sum_by (λ s. s.to + 1 - s.from) spans = count-spans spans scalar_count scalars-counted raws.some raws.ordered in
    let all : how_many (has_raw spans (Some (Scalar i))) all_scalars ≡ how_many (λ n. i == n) ns + how_many (in-any spans) ns =
    count-scalars (has_raw spans (Some (Scalar i))) ns
    ∙ count-either (λ n. i == n) (in-any spans) (λ n h. other-number i n spans (raws.apart (Scalar i) refl) h) ns in
    omega arith

pub counted : (r : RawsData) → AreRaws r.spans r.coded → AreSmall r → count_of r.spans r.coded ≡ length (values_in r)
counted r raws small =
    let arrays : List Value = filter is_array (option_to_list r.coded) in
    let all : count_of r.spans r.coded ≡ how_many (has r) all_scalars + length arrays = counted-by r.spans r.coded raws small in
    let long : length (filter (has r) all_scalars) ≡ how_many (has r) all_scalars = count-filter (has r) all_scalars in
    let both : length (values_in r) ≡ length (filter (has r) all_scalars) + length arrays = length-append (filter (has r) all_scalars) arrays in
    omega arith

-- ---- the one that there is

pub not-one : (vs : List Value) (n : ℕ) → n ≡ length vs → (n ≡ 1 → ⊥) → None ≡ only_one vs
not-one [] n e other = refl
not-one (v ∷ []) n e other = absurd (other e)
not-one (v ∷ w ∷ vs) n e other = refl

or-first : (a : Bool) → (a || false) ≡ true → a ≡ true
or-first true e = refl
or-first false e = e

alone : (x v : Value) → (same_raw v x || false) ≡ true → v ≡ x
alone x v e = same-value v x (or-first (same_raw v x) e)

abbrev pub IsOnly : RawsData → Option Value → Type 0
IsOnly r None = ((v : Value) → has r v ≡ false) ⊎ ((v : Value) × (w : Value) × (v ≢ w) × (has r v ≡ true) × (has r w ≡ true))
IsOnly r (Some v) = has r v ≡ true

only-by : (r : RawsData) (o : Option Value) (vs : List Value) → ((v : Value) → has r v ≡ is_among_values vs v) → length vs ≡ 1 → IsOnly r o → o ≡ only_one vs
only-by r o [] among one is = absurd (omega arith)
only-by r (Some v) (x ∷ []) among one is = ap Some (alone x v (sym (among v) ∙ is))
only-by r None (x ∷ []) among one (inl none) =
    let yes : has r x ≡ true = among x ∙ ap (λ b. b || false) (value-same x) in
    absurd (let no : true ≡ false = sym yes ∙ none x in cc)
only-by r None (x ∷ []) among one (inr two) =
    absurd (two.2 (alone x two.0 (sym (among two.0) ∙ two.3) ∙ sym (alone x two.1 (sym (among two.1) ∙ two.4))))
only-by r o (x ∷ y ∷ vs) among one is = absurd (omega arith)

pub only-is : (r : RawsData) (o : Option Value) (n : ℕ) → AreRaws r.spans r.coded → AreSmall r → n ≡ count_of r.spans r.coded → n ≡ 1 → IsOnly r o → o ≡ only_one (values_in r)
only-is r o n raws small e one is =
    let all : count_of r.spans r.coded ≡ length (values_in r) = counted r raws small in
    only-by r o (values_in r) (λ v. among r v small) (omega arith) is

pub is-only : (r : RawsData) (o : Option Value) → IfSome o (λ v. has r v ≡ true)
    → (o ≡ None → ((v : Value) → has r v ≡ false) ⊎ ((v : Value) × (w : Value) × (v ≢ w) × (has r v ≡ true) × (has r w ≡ true))) → IsOnly r o
is-only r None one other = other refl
is-only r (Some v) one other = one
