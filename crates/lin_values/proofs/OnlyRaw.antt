-- How many raw values there are, and the one that there is alone.
use Rattle.std.proofs.Common.{◌≡◌, ◌≢◌, ◌⊎◌, ◌<◌, ◌≤◌, ◌+◌, ◌-◌, ℕ, Bool, true, false, ◌||◌, List, [], ◌∷◌, refl, sym, subst, ap, ◌∙◌, inl, inr, arith}
use Rattle.std.specs.Prelude.{IfSome, Option, Some, None, All, AllPairs, sum_by}
use Rattle.std.specs.List.{slice_get}
use Rattle.std.specs.Option.{option_map_or}
use Rattle.std.proofs.lemmas.Bool.{cases_lt, eq-eqb, eqb-true}
use Rattle.std.proofs.lemmas.Bool.Decides.{nat_tests}
use Rattle.std.proofs.lemmas.List.Elements.{All-head, All-tail, All-weaker}
use Rattle.std.proofs.lemmas.List.Sums.{sum_by-cons}
use Rattle.std.proofs.lemmas.Slice.Eq.{bytes_eq-Decides}
use Rattle.lin_parts.proofs.Pairs.{pairs-first, pairs-rest}
use Rattle.lin_frame.specs.declared.value.Value.{Value}
use Rattle.lin_frame.specs.declared.value.Value.TheVariants.{Scalar, Bytes}
use Rattle.lin_values.specs.Layers.{in_span, IsBefore, IsSomeSpan}
use Rattle.lin_values.specs.Raws.{count_of, has_raw, in_spans, same_raw, AreRaws}
use Rattle.lin_values.specs.declared.layers.Span.{Span}

abbrev size : Span → ℕ
size s = s.to + 1 - s.from

-- ---- at most 65,536 numbers

abbrev IsFrom : ℕ → Span → Type 0
IsFrom low s = low ≤ s.from

sizes-within : (low : ℕ) (xs : List Span) → low ≤ 65536 → All IsSomeSpan xs → AllPairs IsBefore xs → All (IsFrom low) xs → sum_by size xs + low ≤ 65536
sizes-within low [] le some apart from = omega arith
sizes-within low (x ∷ xs) le some apart from =
    let here : IsSomeSpan x = All-head IsSomeSpan x xs some in
    let low-here : low ≤ x.from = All-head (IsFrom low) x xs from in
    let rest : sum_by size xs + (x.to + 1) ≤ 65536 = sizes-within (x.to + 1) xs (omega arith) (All-tail IsSomeSpan x xs some) (pairs-rest IsBefore x xs apart) (All-weaker (IsBefore x) (IsFrom (x.to + 1)) (λ s h. omega arith) xs (pairs-first IsBefore x xs apart)) in
    let whole : sum_by size (x ∷ xs) ≡ size x + sum_by size xs = sum_by-cons size x xs in
    omega arith

pub few-numbers : (xs : List Span) → All IsSomeSpan xs → AllPairs IsBefore xs → sum_by size xs ≤ 65536
few-numbers xs some apart =
    let h : sum_by size xs + 0 ≤ 65536 = sizes-within 0 xs (omega arith) some apart (All-weaker IsSomeSpan (IsFrom 0) (λ s h. omega arith) xs some) in
    omega arith

-- ---- the values

pub same-value : (v w : Value) → same_raw v w ≡ true → v ≡ w
same-value (Scalar a) (Scalar b) e = ap Scalar (eqb-true a b e)
same-value (Scalar a) (Bytes b) e = cc
same-value (Bytes a) (Scalar b) e = cc
same-value (Bytes a) (Bytes b) e = ap Bytes ((bytes_eq-Decides a b).0 e)

pub value-same : (v : Value) → same_raw v v ≡ true
value-same (Scalar a) = eq-eqb a a refl
value-same (Bytes a) = (bytes_eq-Decides a a).1 refl

has-front : (s : Span) (n : ℕ) → s.from ≤ n → n ≤ s.to → in_span s n ≡ true
has-front s n low high = grind (arith, nat_tests)

or-true : (a b : Bool) → b ≡ true → (a || b) ≡ true
or-true true b e = refl
or-true false b e = e

or-first : (a b : Bool) → a ≡ true → (a || b) ≡ true
or-first true b e = refl
or-first false b e = cc

first-in : (s : Span) (ss : List Span) (coded : Option Value) (n : ℕ) → s.from ≤ n → n ≤ s.to → has_raw (s ∷ ss) coded (Scalar n) ≡ true
first-in s ss coded n low high =
    or-true (option_map_or (λ w. same_raw w (Scalar n)) coded false) (in_spans (s ∷ ss) (Scalar n)) (or-first (in_span s n) (in_spans ss (Scalar n)) (has-front s n low high))

second-in : (s t : Span) (ss : List Span) (coded : Option Value) (n : ℕ) → t.from ≤ n → n ≤ t.to → has_raw (s ∷ t ∷ ss) coded (Scalar n) ≡ true
second-in s t ss coded n low high =
    or-true (option_map_or (λ w. same_raw w (Scalar n)) coded false) (in_spans (s ∷ t ∷ ss) (Scalar n)) (or-true (in_span s n) (in_spans (t ∷ ss) (Scalar n)) (or-first (in_span t n) (in_spans ss (Scalar n)) (has-front t n low high)))

abbrev pub AreNone : List Span → Option Value → Type 0
AreNone spans coded = (v : Value) → has_raw spans coded v ≡ false

abbrev pub AreTwo : List Span → Option Value → Type 0
AreTwo spans coded = (v : Value) × (w : Value) × (v ≢ w) × (has_raw spans coded v ≡ true) × (has_raw spans coded w ≡ true)

scalars-apart : (a b : ℕ) → a < b → Scalar a ≢ Scalar b
scalars-apart a b lt e = let same : a ≡ b = cc in omega arith

none-of-none : (v : Value) → has_raw [] None v ≡ false
none-of-none (Scalar n) = refl
none-of-none (Bytes b) = refl

pub none-or-two : (spans : List Span) (coded : Option Value) → AreRaws spans coded → (count_of spans coded ≡ 1 → ⊥) → AreNone spans coded ⊎ AreTwo spans coded
none-or-two [] None raws other = inl none-of-none
none-or-two [] (Some v) raws other = absurd (other refl)
none-or-two (s ∷ ss) (Some v) raws other =
    let here : IsSomeSpan s = All-head IsSomeSpan s ss raws.some in
    inr (
      Scalar s.from,
      v,
      λ e. (
          let is : in_spans (s ∷ ss) v ≡ false = raws.apart v refl in
          let has : in_spans (s ∷ ss) (Scalar s.from) ≡ true = or-first (in_span s s.from) (in_spans ss (Scalar s.from)) (has-front s s.from (omega arith) here.0) in
          let moved : in_spans (s ∷ ss) (Scalar s.from) ≡ in_spans (s ∷ ss) v = ap (in_spans (s ∷ ss)) e in
          cc),
      first-in s ss (Some v) s.from (omega arith) here.0,
      or-first (same_raw v v) (in_spans (s ∷ ss) v) (value-same v),
    )
none-or-two (s ∷ []) None raws other =
    let here : IsSomeSpan s = All-head IsSomeSpan s [] raws.some in
    elim (cases_lt s.from s.to) [
      | inl lt ↦ inr (Scalar s.from, Scalar s.to, scalars-apart s.from s.to lt, first-in s [] None s.from (omega arith) here.0, first-in s [] None s.to here.0 (omega arith))
      | inr le ↦ absurd (other (let whole : sum_by size (s ∷ []) ≡ size s + sum_by size [] = sum_by-cons size s [] in omega arith))
    ]
none-or-two (s ∷ t ∷ ss) None raws other =
    let here : IsSomeSpan s = All-head IsSomeSpan s (t ∷ ss) raws.some in
    let there : IsSomeSpan t = All-head IsSomeSpan t ss (All-tail IsSomeSpan s (t ∷ ss) raws.some) in
    let before : s.to < t.from = All-head (IsBefore s) t ss (pairs-first IsBefore s (t ∷ ss) raws.ordered) in
    inr (Scalar s.from, Scalar t.from, scalars-apart s.from t.from (omega arith), first-in s (t ∷ ss) None s.from (omega arith) here.0, second-in s t ss None t.from (omega arith) there.0)

-- ---- one alone

abbrev pub IsOnly : List Span → Option Value → Value → Type 0
IsOnly spans coded v = (has_raw spans coded v ≡ true) × ((w : Value) → has_raw spans coded w ≡ true → w ≡ v)

no-more : (s : Span) (ss : List Span) (k : ℕ) → IsSomeSpan s → All IsSomeSpan ss → sum_by size (s ∷ ss) + k ≡ 1 → (s.to ≡ s.from) × (ss ≡ []) × (k ≡ 0)
no-more s [] k here rest one =
    let whole : sum_by size (s ∷ []) ≡ size s + sum_by size [] = sum_by-cons size s [] in
    (omega arith, refl, omega arith)
no-more s (t ∷ ss) k here rest one =
    let whole : sum_by size (s ∷ t ∷ ss) ≡ size s + sum_by size (t ∷ ss) = sum_by-cons size s (t ∷ ss) in
    let more : sum_by size (t ∷ ss) ≡ size t + sum_by size ss = sum_by-cons size t ss in
    let there : IsSomeSpan t = All-head IsSomeSpan t ss rest in
    absurd (omega arith)

no-coded : (coded : Option Value) → ◌≡◌ {A = ℕ} (option_map_or (λ v. 1) coded 0) 0 → coded ≡ None
no-coded None e = refl
no-coded (Some v) e = absurd (omega arith)

one-number : (s : Span) (n : ℕ) → s.to ≡ s.from → in_span s n || false ≡ true → n ≡ s.from
one-number s n e h = grind (arith, nat_tests)

in-one : (s : Span) (v : Value) → s.to ≡ s.from → in_spans (s ∷ []) v ≡ true → v ≡ Scalar s.from
in-one s (Scalar n) e h = ap Scalar (one-number s n e h)
in-one s (Bytes b) e h = cc

pub only-scalar : (s : Span) (ss : List Span) (coded : Option Value) → AreRaws (s ∷ ss) coded → count_of (s ∷ ss) coded ≡ 1 → IsOnly (s ∷ ss) coded (Scalar s.from)
only-scalar s ss coded raws one =
    let here : IsSomeSpan s = All-head IsSomeSpan s ss raws.some in
    let alone = no-more s ss (option_map_or (λ v. 1) coded 0) here (All-tail IsSomeSpan s ss raws.some) one in
    let none : coded ≡ None = no-coded coded alone.2 in (
      first-in s ss coded s.from (omega arith) here.0,
      λ w h. in-one s w alone.0 (sym (ap (λ o. has_raw (s ∷ []) o w) none) ∙ sym (ap (λ zs. has_raw (s ∷ zs) coded w) alone.1) ∙ h),
    )

or-false-back : (a : Bool) → (a || false) ≡ true → a ≡ true
or-false-back true e = refl
or-false-back false e = e

in-none : (v w : Value) → has_raw [] (Some v) w ≡ true → w ≡ v
in-none v (Scalar n) h = sym (same-value v (Scalar n) (or-false-back (same_raw v (Scalar n)) h))
in-none v (Bytes b) h = sym (same-value v (Bytes b) (or-false-back (same_raw v (Bytes b)) h))

pub only-coded : (v : Value) → IsOnly [] (Some v) v
only-coded v = (or-first (same_raw v v) (in_spans [] v) (value-same v), in-none v)

pub none-first : (xs : List Span) → slice_get xs 0 ≡ None → xs ≡ []
none-first [] e = refl
none-first (x ∷ xs) e = cc

only-at-none : (coded : Option Value) (v : Value) → IfSome coded (λ w. has_raw [] coded v ≡ true → v ≡ w)
only-at-none None v = tt
only-at-none (Some w) v = in-none w v

pub only-of-none : (spans : List Span) (coded : Option Value) (v : Value) → spans ≡ [] → IfSome coded (λ w. has_raw spans coded v ≡ true → v ≡ w)
only-of-none spans coded v e = subst (λ (zs : List Span). IfSome coded (λ w. has_raw zs coded v ≡ true → v ≡ w)) (sym e) (only-at-none coded v)
