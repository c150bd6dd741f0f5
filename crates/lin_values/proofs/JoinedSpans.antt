-- A range that is added to spans in order.
use Rattle.std.proofs.Common.{◌≡◌, ◌<◌, ◌≤◌, ◌+◌, ◌-◌, ℕ, suc, Bool, true, false, cond, not, ◌&&◌, ◌||◌, List, [], ◌∷◌, ◌++◌, length, refl, sym, subst, ap, ◌∙◌, ◌⊎◌, inl, inr, arith}
use Rattle.std.specs.Prelude.{nat_le, nat_lt, All, AllPairs, count_by, min, max, slice_index_or}
use Rattle.std.specs.List.{list_any}
use Rattle.std.proofs.lemmas.Bool.{cases_lt, cases_Bool, or_parts, lt-leb, le-leb, lt-ltb, le-ltb}
use Rattle.std.proofs.lemmas.Bool.Decides.{nat_tests}
use Rattle.std.proofs.lemmas.List.Elements.{All-nil, All-cons, All-head, All-tail, All-append, All-weaker}
use Rattle.std.proofs.lemmas.List.Folds.{list_any-append, list_any_none}
use Rattle.std.proofs.lemmas.List.Sums.{sum_by-cons, sum_by-append}
use Rattle.lin_parts.proofs.Pairs.{pairs-cons, pairs-none, pairs-first, pairs-rest}
use Rattle.lin_values.specs.Joined.{gaps, joined_span, with_span}
use Rattle.lin_values.specs.Layers.{in_span, part_between, IsBefore}
use Rattle.lin_values.specs.declared.layers.RangePart.{RangePart}
use Rattle.lin_values.specs.declared.layers.Span.{Span}

-- whether a number is in one of them
abbrev pub any_span : ℕ → List Span → Bool
any_span n ss = list_any (λ s. in_span s n) ss

abbrev pub any_part : ℕ → List RangePart → Bool
any_part n ps = list_any (λ p. in_span p.span n) ps

abbrev pub times : ℕ → List RangePart → ℕ
times n ps = count_by (λ p. in_span p.span n) ps

-- none of them has a number below
pub none-above : (n : ℕ) (ss : List Span) → All (λ s. n < s.from) ss → any_span n ss ≡ false
none-above n ss above = list_any_none (λ s. in_span s n) ss (All-weaker (λ s. n < s.from) (λ s. in_span s n ≡ false) (λ s h. grind (arith, nat_tests)) ss above)

-- nor above
pub none-below : (n : ℕ) (ss : List Span) → All (λ s. s.to < n) ss → any_span n ss ≡ false
none-below n ss below = list_any_none (λ s. in_span s n) ss (All-weaker (λ s. s.to < n) (λ s. in_span s n ≡ false) (λ s h. grind (arith, nat_tests)) ss below)

pub behind-first : (n : ℕ) (s : Span) (ss : List Span) → AllPairs IsBefore (s ∷ ss) → n ≤ s.to → any_span n ss ≡ false
behind-first n s ss ordered le =
    none-above n ss (All-weaker (IsBefore s) (λ z. n < z.from) (λ z h. omega arith) ss (pairs-first IsBefore s ss ordered))

-- what is below the first is below all
pub above-all : (n : ℕ) (s : Span) (ss : List Span) → n < s.from → All (λ z. z.from ≤ z.to) (s ∷ ss) → AllPairs IsBefore (s ∷ ss) → All (λ z. n < z.from) (s ∷ ss)
above-all n s ss lt some ordered =
    let full : s.from ≤ s.to = All-head (λ (z : Span). z.from ≤ z.to) s ss some in
    All-cons (λ z. n < z.from) s ss lt (All-weaker (IsBefore s) (λ z. n < z.from) (λ z h. omega arith) ss (pairs-first IsBefore s ss ordered))

next-all : (s : Span) (ss : List Span) → All (λ z. z.from ≤ z.to) (s ∷ ss) → AllPairs IsBefore (s ∷ ss) → All (λ z. s.to + 1 ≤ z.to + 1) ss
next-all s ss some ordered k d lt =
    let full : (slice_index_or ss k d).from ≤ (slice_index_or ss k d).to = All-tail (λ (z : Span). z.from ≤ z.to) s ss some k d lt in
    let up : s.to < (slice_index_or ss k d).from = pairs-first IsBefore s ss ordered k d lt in
    omega arith

joined-high : (whole : Span) (to : ℕ) (s : Span) (ss : List Span) → s.from ≤ s.to → AllPairs IsBefore (s ∷ ss) → (whole.to ≤ to) ⊎ All (IsBefore whole) (s ∷ ss) → (max whole.to s.to ≤ to) ⊎ All (λ z. max whole.to s.to < z.from) ss
joined-high whole to s ss full ordered high =
    let up : (whole.to ≤ to) ⊎ (whole.to ≤ s.to) = elim high as (λ _. (whole.to ≤ to) ⊎ (whole.to ≤ s.to)) [
      | inl le ↦ inl le
      | inr all ↦ let first : whole.to < s.from = All-head (IsBefore whole) s ss all in inr (omega arith)
    ] in
    elim (cases_lt to s.to) as (λ _. (max whole.to s.to ≤ to) ⊎ All (λ z. max whole.to s.to < z.from) ss) [
      | inl far ↦
          let e : whole.to ≤ s.to = elim up as (λ _. whole.to ≤ s.to) [ inl le ↦ omega arith | inr le ↦ le ] in
          inr (All-weaker (IsBefore s) (λ z. max whole.to s.to < z.from) (λ z h. omega arith) ss (pairs-first IsBefore s ss ordered))
      | inr near ↦ inl (elim up as (λ _. max whole.to s.to ≤ to) [ inl le ↦ omega arith | inr le ↦ omega arith ])
    ]

-- ---- the parts of a range that no span has

pub part-has : (n from end item : ℕ) → any_part n (part_between from end item) ≡ (nat_le from n && nat_lt n end)
part-has n from end item = grind (arith, nat_tests)

gap-step : (n from a b to : ℕ) (rest : Bool) → a ≤ to → a ≤ b → from ≤ b + 1 → (n ≤ b → rest ≡ false) → ((nat_le from n && nat_lt n a) || (nat_le (b + 1) n && (nat_le n to && not rest))) ≡ (nat_le from n && (nat_le n to && not ((nat_le a n && nat_le n b) || rest)))
gap-step n from a b to rest met some next apart =
    elim (cases_lt b n) [
      | inl above ↦ grind (arith, nat_tests)
      | inr le ↦ let none = apart le in grind (arith, nat_tests)
    ]

last-gap : (n from a to : ℕ) (has : Bool) → to < a → (n < a → has ≡ false) → (nat_le from n && nat_lt n (to + 1)) ≡ (nat_le from n && (nat_le n to && not has))
last-gap n from a to has far none =
    elim (cases_lt n a) [
      | inl below ↦ let e = none below in grind (arith, nat_tests)
      | inr le ↦ grind (arith, nat_tests)
    ]

pub gaps-have : (n from to item : ℕ) (ss : List Span) → All (λ s. s.from ≤ s.to) ss → AllPairs IsBefore ss → All (λ s. from ≤ s.to + 1) ss → any_part n (gaps from to item ss) ≡ (nat_le from n && (nat_le n to && not (any_span n ss)))
gaps-have n from to item [] some ordered next = part-has n from (to + 1) item ∙ grind (arith, nat_tests)
gaps-have n from to item (s ∷ ss) some ordered next =
    let Full : Span → Type 0 = λ z. z.from ≤ z.to in
    let Next : Span → Type 0 = λ z. from ≤ z.to + 1 in
    let full : s.from ≤ s.to = All-head Full s ss some in
    let low : from ≤ s.to + 1 = All-head Next s ss next in
    let met : List RangePart = part_between from s.from item ++ gaps (s.to + 1) to item ss in
    let unmet : List RangePart = part_between from (to + 1) item in
    elim (cases_lt to s.from) as (λ _. any_part n (gaps from to item (s ∷ ss)) ≡ (nat_le from n && (nat_le n to && not (any_span n (s ∷ ss))))) [
      | inl far ↦
          ap (λ b. any_part n (cond b met unmet)) (lt-leb s.from to far) ∙ part-has n from (to + 1) item
          ∙ last-gap n from s.from to (any_span n (s ∷ ss)) far (λ lt. none-above n (s ∷ ss) (above-all n s ss lt some ordered))
      | inr le ↦
          let rest = gaps-have n (s.to + 1) to item ss (All-tail Full s ss some) (pairs-rest IsBefore s ss ordered) (next-all s ss some ordered) in
          ap (λ b. any_part n (cond b met unmet)) (le-leb s.from to le)
          ∙ list_any-append (λ (p : RangePart). in_span p.span n) (part_between from s.from item) (gaps (s.to + 1) to item ss)
          ∙ ap (λ b. b || any_part n (gaps (s.to + 1) to item ss)) (part-has n from s.from item)
          ∙ ap (λ b. (nat_le from n && nat_lt n s.from) || b) rest
          ∙ gap-step n from s.from s.to to (any_span n ss) le full low (behind-first n s ss ordered)
    ]

-- ---- each of their numbers once

none-counted : (n : ℕ) (ps : List RangePart) → any_part n ps ≡ false → times n ps ≡ 0
none-counted n [] none = refl
none-counted n (p ∷ ps) none =
    let both = or_parts (in_span p.span n) (any_part n ps) none in
    let first : ◌≡◌ {A = ℕ} (cond (in_span p.span n) 1 0) 0 = ap (λ b. cond b 1 0) both.0 in
    let rest : times n ps ≡ 0 = none-counted n ps both.1 in
    omega (arith, sum_by-cons (λ (q : RangePart). cond (in_span q.span n) 1 0) p ps)

pub times-append : (n : ℕ) (ps qs : List RangePart) → times n (ps ++ qs) ≡ times n ps + times n qs
times-append n ps qs = sum_by-append (λ (q : RangePart). cond (in_span q.span n) 1 0) ps qs

part-once : (n from end item : ℕ) → times n (part_between from end item) ≤ 1
part-once n from end item = grind (arith, nat_tests)

part-none : (n from end item : ℕ) → end ≤ n → times n (part_between from end item) ≡ 0
part-none n from end item le = none-counted n (part_between from end item) (part-has n from end item ∙ grind (arith, nat_tests))

-- where at most one of two has the number
pub once-more : (n : ℕ) (ps qs : List RangePart) → times n ps ≤ 1 → times n qs ≤ 1 → (any_part n qs ≡ true → any_part n ps ≡ false) → times n (ps ++ qs) ≤ 1
once-more n ps qs one other apart =
    elim (cases_Bool (any_part n qs)) as (λ _. times n (ps ++ qs) ≤ 1) [
      | inl has ↦ let none : times n ps ≡ 0 = none-counted n ps (apart has) in omega (arith, times-append n ps qs)
      | inr hasnt ↦ let none : times n qs ≡ 0 = none-counted n qs hasnt in omega (arith, times-append n ps qs)
    ]

up-from : (n from to : ℕ) (b : Bool) → (nat_le from n && (nat_le n to && b)) ≡ true → from ≤ n
up-from n from to b e = grind (arith, nat_tests)

pub gaps-once : (n from to item : ℕ) (ss : List Span) → All (λ s. s.from ≤ s.to) ss → AllPairs IsBefore ss → All (λ s. from ≤ s.to + 1) ss → times n (gaps from to item ss) ≤ 1
gaps-once n from to item [] some ordered next = part-once n from (to + 1) item
gaps-once n from to item (s ∷ ss) some ordered next =
    let Full : Span → Type 0 = λ z. z.from ≤ z.to in
    let full : s.from ≤ s.to = All-head Full s ss some in
    let met : List RangePart = part_between from s.from item ++ gaps (s.to + 1) to item ss in
    let unmet : List RangePart = part_between from (to + 1) item in
    let back = All-tail Full s ss some in
    let ups = pairs-rest IsBefore s ss ordered in
    let nexts = next-all s ss some ordered in
    elim (cases_lt to s.from) as (λ _. times n (gaps from to item (s ∷ ss)) ≤ 1) [
      | inl far ↦ subst (λ b. times n (cond b met unmet) ≤ 1) (sym (lt-leb s.from to far)) (part-once n from (to + 1) item)
      | inr le ↦ subst (λ b. times n (cond b met unmet) ≤ 1) (sym (le-leb s.from to le)) (once-more n (part_between from s.from item) (gaps (s.to + 1) to item ss) (part-once n from s.from item) (gaps-once n (s.to + 1) to item ss back ups nexts) (λ has.
          let above : s.to + 1 ≤ n = up-from n (s.to + 1) to (not (any_span n ss)) (sym (gaps-have n (s.to + 1) to item ss back ups nexts) ∙ has) in
          part-has n from s.from item ∙ grind (arith, nat_tests)))
    ]

-- ---- what they are

part-is : (P : RangePart → Type 0) (from end item : ℕ) → (from < end → P (record { span = record { from = from; to = end - 1 }; item = item })) → All P (part_between from end item)
part-is P from end item here =
    elim (cases_lt from end) as (λ _. All P (part_between from end item)) [
      | inl lt ↦ subst (λ b. All P (cond b (record { span = record { from = from; to = end - 1 }; item = item } ∷ []) [])) (sym (lt-ltb from end lt)) (All-cons P (record { span = record { from = from; to = end - 1 }; item = item }) [] (here lt) (All-nil P))
      | inr le ↦ subst (λ b. All P (cond b (record { span = record { from = from; to = end - 1 }; item = item } ∷ []) [])) (sym (le-ltb from end le)) (All-nil P)
    ]

pub gaps-are : (P : RangePart → Type 0) (from to item : ℕ) (ss : List Span) → ((a b : ℕ) → a < b → P (record { span = record { from = a; to = b - 1 }; item = item })) → All P (gaps from to item ss)
gaps-are P from to item [] here = part-is P from (to + 1) item (here from (to + 1))
gaps-are P from to item (s ∷ ss) here =
    elim (nat_le s.from to) as (λ b. All P (cond b (part_between from s.from item ++ gaps (s.to + 1) to item ss) (part_between from (to + 1) item))) [
      | true ↦ All-append P (part_between from s.from item) (gaps (s.to + 1) to item ss) (part-is P from s.from item (here from s.from)) (gaps-are P (s.to + 1) to item ss here)
      | false ↦ part-is P from (to + 1) item (here from (to + 1))
    ]

-- ---- the range joined with the spans that it meets

with-has : (n a b c d : ℕ) → a ≤ d → c ≤ b → (nat_le (min a c) n && nat_le n (max b d)) ≡ ((nat_le a n && nat_le n b) || (nat_le c n && nat_le n d))
with-has n a b c d low high = grind (arith, nat_tests)

or-assoc : (a b c : Bool) → ((a || b) || c) ≡ (a || (b || c))
or-assoc true b c = refl
or-assoc false b c = refl

pub joined-has : (n : ℕ) (whole : Span) (to : ℕ) (ss : List Span) → to ≤ whole.to → All (λ s. whole.from ≤ s.to) ss → (in_span (joined_span whole to ss).0 n || any_span n (joined_span whole to ss).1) ≡ (in_span whole n || any_span n ss)
joined-has n whole to [] high low = refl
joined-has n whole to (s ∷ ss) high low =
    let Low : Span → Type 0 = λ z. whole.from ≤ z.to in
    let first : whole.from ≤ s.to = All-head Low s ss low in
    let met : Span × List Span = joined_span (with_span whole s) to ss in
    let unmet : Span × List Span = (whole, s ∷ ss) in
    let has : Span × List Span → Bool = λ r. in_span r.0 n || any_span n r.1 in
    elim (cases_lt to s.from) as (λ _. has (joined_span whole to (s ∷ ss)) ≡ (in_span whole n || any_span n (s ∷ ss))) [
      | inl far ↦ ap (λ b. has (cond b met unmet)) (lt-leb s.from to far)
      | inr le ↦
          ap (λ b. has (cond b met unmet)) (le-leb s.from to le)
          ∙ joined-has n (with_span whole s) to ss (omega arith) (All-weaker Low (λ z. min whole.from s.from ≤ z.to) (λ z h. omega arith) ss (All-tail Low s ss low))
          ∙ ap (λ b. b || any_span n ss) (with-has n whole.from whole.to s.from s.to first (omega arith))
          ∙ or-assoc (in_span whole n) (in_span s n) (any_span n ss)
    ]

pub joined-apart : (whole : Span) (to : ℕ) (ss : List Span) → All (λ s. s.from ≤ s.to) ss → AllPairs IsBefore ss → (whole.to ≤ to) ⊎ All (IsBefore whole) ss → AllPairs IsBefore ((joined_span whole to ss).0 ∷ (joined_span whole to ss).1)
joined-apart whole to [] some ordered high = pairs-cons IsBefore whole [] (All-nil (IsBefore whole)) (pairs-none IsBefore)
joined-apart whole to (s ∷ ss) some ordered high =
    let Full : Span → Type 0 = λ z. z.from ≤ z.to in
    let full : s.from ≤ s.to = All-head Full s ss some in
    let met : Span × List Span = joined_span (with_span whole s) to ss in
    let unmet : Span × List Span = (whole, s ∷ ss) in
    let Apart : Span × List Span → Type 0 = λ r. AllPairs IsBefore (r.0 ∷ r.1) in
    elim (cases_lt to s.from) as (λ _. Apart (joined_span whole to (s ∷ ss))) [
      | inl far ↦ subst (λ b. Apart (cond b met unmet)) (sym (lt-leb s.from to far)) (pairs-cons IsBefore whole (s ∷ ss) (elim high as (λ _. All (IsBefore whole) (s ∷ ss)) [
        | inl le ↦ above-all whole.to s ss (omega arith) some ordered
        | inr all ↦ all
      ]) ordered)
      | inr le ↦ subst (λ b. Apart (cond b met unmet)) (sym (le-leb s.from to le)) (joined-apart (with_span whole s) to ss (All-tail Full s ss some) (pairs-rest IsBefore s ss ordered) (joined-high whole to s ss full ordered high))
    ]

pub joined-low : (low : ℕ) (whole : Span) (to : ℕ) (ss : List Span) → low < whole.from → All (λ s. low < s.from) ss → low < (joined_span whole to ss).0.from
joined-low low whole to [] first all = first
joined-low low whole to (s ∷ ss) first all =
    let Above : Span → Type 0 = λ z. low < z.from in
    let here : low < s.from = All-head Above s ss all in
    elim (nat_le s.from to) as (λ b. low < (cond b (joined_span (with_span whole s) to ss) (whole, s ∷ ss)).0.from) [
      | true ↦ joined-low low (with_span whole s) to ss (omega arith) (All-tail Above s ss all)
      | false ↦ first
    ]

pub joined-full : (whole : Span) (to : ℕ) (ss : List Span) → whole.from ≤ whole.to → (joined_span whole to ss).0.from ≤ (joined_span whole to ss).0.to
joined-full whole to [] full = full
joined-full whole to (s ∷ ss) full =
    let Full : Span × List Span → Type 0 = λ r. r.0.from ≤ r.0.to in
    elim (nat_le s.from to) as (λ b. Full (cond b (joined_span (with_span whole s) to ss) (whole, s ∷ ss))) [
      | true ↦ joined-full (with_span whole s) to ss (omega arith)
      | false ↦ full
    ]

pub joined-rest : (P : Span → Type 0) (whole : Span) (to : ℕ) (ss : List Span) → All P ss → All P (joined_span whole to ss).1
joined-rest P whole to [] all = all
joined-rest P whole to (s ∷ ss) all =
    elim (nat_le s.from to) as (λ b. All P (cond b (joined_span (with_span whole s) to ss) (whole, s ∷ ss)).1) [
      | true ↦ joined-rest P (with_span whole s) to ss (All-tail P s ss all)
      | false ↦ all
    ]

-- whether the first begins up to a number
abbrev pub meets : ℕ → List Span → Bool
meets to [] = false
meets to (s ∷ ss) = nat_le s.from to

joined-short : (whole : Span) (to : ℕ) (ss : List Span) → length (joined_span whole to ss).1 ≤ length ss
joined-short whole to [] = omega arith
joined-short whole to (s ∷ ss) =
    let Short : Span × List Span → Type 0 = λ r. length r.1 ≤ suc (length ss) in
    elim (nat_le s.from to) as (λ b. Short (cond b (joined_span (with_span whole s) to ss) (whole, s ∷ ss))) [
      | true ↦ let rest = joined-short (with_span whole s) to ss in omega arith
      | false ↦ omega arith
    ]

-- spans are joined just where the first begins up to the end
pub joined-some : (whole : Span) (to : ℕ) (ss : List Span) → meets to ss ≡ nat_lt (length (joined_span whole to ss).1) (length ss)
joined-some whole to [] = refl
joined-some whole to (s ∷ ss) =
    let Some' : Bool → Type 0 = λ b. b ≡ nat_lt (length (cond b (joined_span (with_span whole s) to ss) (whole, s ∷ ss)).1) (suc (length ss)) in
    elim (nat_le s.from to) as Some' [
      | true ↦ let rest = joined-short (with_span whole s) to ss in sym (lt-ltb (length (joined_span (with_span whole s) to ss).1) (suc (length ss)) (omega arith))
      | false ↦ sym (le-ltb (suc (length ss)) (suc (length ss)) (omega arith))
    ]
