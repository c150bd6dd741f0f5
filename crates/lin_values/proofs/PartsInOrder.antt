-- Parts in order, and the item that counts for a number.
use Rattle.std.proofs.Common.{◌≡◌, ◌<◌, ◌≤◌, ◌+◌, ℕ, suc, Bool, true, false, cond, ◌&&◌, List, [], ◌∷◌, length, take, drop, get_or, refl, sym, subst, ap, ◌∙◌, inl, inr, arith, take-append-drop}
use Rattle.std.specs.Prelude.{Option, Some, None, find, nat_le, nat_lt, All, AllPairs, sum_by}
use Rattle.std.specs.List.Sorted.{IsPartitionPoint, IsPartitionedBy, IsNonDecreasingBy, IsPermutation}
use Rattle.std.specs.Option.{option_map, option_or}
use Rattle.std.specs.Ordering.{is_lt, nat_cmp, ordering_then}
use Rattle.std.proofs.lemmas.Bool.{cases_lt, ltb-false}
use Rattle.std.proofs.lemmas.Bool.Decides.{nat_tests}
use Rattle.std.proofs.lemmas.List.{drop_more, drop_all}
use Rattle.std.proofs.lemmas.List.Elements.{All-head, All-tail, All-weaker}
use Rattle.std.proofs.lemmas.List.Sorted.{IsPartitionedBy-ltb, IsNonDecreasingBy-from_all_adjacent, All-permutation, sum_by-IsPermutation}
use Rattle.std.proofs.lemmas.List.Sums.{sum_by-cons}
use Rattle.lin_cluster.proofs.NothingIn.{two-counted}
use Rattle.lin_parts.proofs.Pairs.{pairs-back, pairs-first}
use Rattle.lin_values.proofs.AddedRanges.{take-all, drop-all}
use Rattle.lin_values.proofs.JoinedSpans.{times}
use Rattle.lin_values.proofs.Layered.{item-append}
use Rattle.lin_values.specs.Layers.{in_span, item_in, AreInOrder, IsBefore}
use Rattle.lin_values.specs.declared.layers.RangePart.{RangePart}

abbrev Before : RangePart → RangePart → Type 0
Before p q = IsBefore p.span q.span

pub no-item : (n : ℕ) (ps : List RangePart) → All (λ p. in_span p.span n ≡ false) ps → item_in ps n ≡ None
no-item n [] none = refl
no-item n (p ∷ ps) none =
    ap (λ b. option_map (λ (q : RangePart). q.item) (cond b (Some p) (find (λ (q : RangePart). in_span q.span n) ps))) (All-head (λ (q : RangePart). in_span q.span n ≡ false) p ps none)
    ∙ no-item n ps (All-tail (λ (q : RangePart). in_span q.span n ≡ false) p ps none)

first-item : (n : ℕ) (p : RangePart) (ps : List RangePart) → All (Before p) ps → n ≤ p.span.to → item_in (p ∷ ps) n ≡ cond (in_span p.span n) (Some p.item) None
first-item n p ps before le =
    let rest : item_in ps n ≡ None = no-item n ps (All-weaker (Before p) (λ q. in_span q.span n ≡ false) (λ q h. grind (arith, nat_tests)) ps before) in
    elim (in_span p.span n) as (λ b. option_map (λ (q : RangePart). q.item) (cond b (Some p) (find (λ (q : RangePart). in_span q.span n) ps)) ≡ cond b (Some p.item) None) [
      | true ↦ refl
      | false ↦ rest
    ]

ends-rise : (ps : List RangePart) → AreInOrder ps → IsNonDecreasingBy (λ p. p.span.to) ps
ends-rise ps ordered i j d le lt =
    elim (cases_lt i j) as (λ _. (get_or ps i d).span.to ≤ (get_or ps j d).span.to) [
      | inl up ↦
          let before : (get_or ps i d).span.to < (get_or ps j d).span.from = ordered.1 i j d up lt in
          let full : (get_or ps j d).span.from ≤ (get_or ps j d).span.to = ordered.0 j d lt in
          omega arith
      | inr back ↦
          let e : i ≡ j = omega arith in
          subst (λ n. (get_or ps i d).span.to ≤ (get_or ps n d).span.to) e (omega arith)
    ]

pub parts-parted : (ps : List RangePart) (n : ℕ) → AreInOrder ps → IsPartitionedBy (λ p. nat_lt p.span.to n) ps
parts-parted ps n ordered = IsPartitionedBy-ltb (λ (p : RangePart). p.span.to) ps n (ends-rise ps ordered)

abbrev PointsTo : List RangePart → ℕ → ℕ → Type 0
PointsTo ps n at = IsPartitionPoint (λ p. nat_lt p.span.to n ≡ true) (λ p. nat_lt p.span.to n ≡ false) ps at

item-behind : (ps : List RangePart) (n at : ℕ) → PointsTo ps n at → item_in ps n ≡ item_in (drop at ps) n
item-behind ps n at point =
    let none : item_in (take at ps) n ≡ None = no-item n (take at ps) (All-weaker (λ (p : RangePart). nat_lt p.span.to n ≡ true) (λ p. in_span p.span n ≡ false) (λ p h. grind (arith, nat_tests)) (take at ps) (take-all (λ (p : RangePart). nat_lt p.span.to n ≡ true) ps at point.0)) in
    ap (λ qs. item_in qs n) (sym (take-append-drop at ps)) ∙ item-append n (take at ps) (drop at ps) ∙ ap (λ o. option_or o (item_in (drop at ps) n)) none

pub item-at : (ps : List RangePart) (n at : ℕ) (p : RangePart) → AreInOrder ps → PointsTo ps n at → at < length ps → p ≡ get_or ps at p → item_in ps n ≡ cond (in_span p.span n) (Some p.item) None
item-at ps n at p ordered point lt is =
    let rest : drop at ps ≡ p ∷ drop (at + 1) ps = drop_more ps at p lt ∙ ap (λ q. q ∷ drop (at + 1) ps) (sym is) in
    let pairs : AllPairs Before (p ∷ drop (at + 1) ps) = subst (AllPairs Before) rest (pairs-back Before (take at ps) (drop at ps) (subst (AllPairs Before) (sym (take-append-drop at ps)) ordered.1)) in
    let high : n ≤ p.span.to = ltb-false p.span.to n (All-head (λ (q : RangePart). nat_lt q.span.to n ≡ false) p (drop (at + 1) ps) (subst (All (λ (q : RangePart). nat_lt q.span.to n ≡ false)) rest (drop-all (λ (q : RangePart). nat_lt q.span.to n ≡ false) ps at point.1))) in
    item-behind ps n at point ∙ ap (λ qs. item_in qs n) rest ∙ first-item n p (drop (at + 1) ps) (pairs-first Before p (drop (at + 1) ps) pairs) high

pub item-past : (ps : List RangePart) (n at : ℕ) → PointsTo ps n at → length ps ≤ at → item_in ps n ≡ None
item-past ps n at point le = item-behind ps n at point ∙ ap (λ qs. item_in qs n) (drop_all at ps le)

-- ---- parts that are sorted

first-key : (a b c d e f : ℕ) → is_lt (ordering_then (ordering_then (nat_cmp b a) (nat_cmp d c)) (nat_cmp f e)) ≡ false → a ≤ b
first-key a b c d e f h = grind (arith, nat_tests)

both-tests : (n a b : ℕ) → a ≤ n → n ≤ b → (nat_le a n && nat_le n b) ≡ true
both-tests n a b low high = grind (arith, nat_tests)

no-weight : (b : Bool) (w : ℕ) → ◌≡◌ {A = ℕ} (cond b 1 0) 0 → ◌≡◌ {A = ℕ} (cond b w 0) 0
no-weight true w e = absurd (omega arith)
no-weight false w e = refl

pub sorted-in-order : (xs ys : List RangePart) → IsPermutation xs ys → All (λ p. p.span.from ≤ p.span.to) xs → ((n : ℕ) → times n xs ≤ 1) → ((k : ℕ) (d : RangePart) → 0 ≤ k → k + 1 < length ys → is_lt (ordering_then (ordering_then (nat_cmp (get_or ys (k + 1) d).span.from (get_or ys k d).span.from) (nat_cmp (get_or ys (k + 1) d).span.to (get_or ys k d).span.to)) (nat_cmp (get_or ys (k + 1) d).item (get_or ys k d).item)) ≡ false) → AreInOrder ys
sorted-in-order xs ys moved full once sorted =
    let Full : RangePart → Type 0 = λ p. p.span.from ≤ p.span.to in
    let all : All Full ys = All-permutation Full xs ys moved full in
    let rise : IsNonDecreasingBy (λ (p : RangePart). p.span.from) ys = IsNonDecreasingBy-from_all_adjacent (λ (p : RangePart). p.span.from) ys (λ k d lt. first-key (get_or ys k d).span.from (get_or ys (k + 1) d).span.from (get_or ys k d).span.to (get_or ys (k + 1) d).span.to (get_or ys k d).item (get_or ys (k + 1) d).item (sorted k d (omega arith) lt)) in (
      all,
      λ i j d up lt. elim (cases_lt (get_or ys i d).span.to (get_or ys j d).span.from) as (λ _. (get_or ys i d).span.to < (get_or ys j d).span.from) [
        | inl before ↦ before
        | inr meets ↦
            let n : ℕ = (get_or ys j d).span.from in
            let low : (get_or ys i d).span.from ≤ (get_or ys j d).span.from = rise i j d (omega arith) lt in
            let here : (get_or ys j d).span.from ≤ (get_or ys j d).span.to = all j d lt in
            let two : 1 < times (get_or ys j d).span.from ys = two-counted (λ (p : RangePart). in_span p.span (get_or ys j d).span.from) ys i j d up lt (both-tests (get_or ys j d).span.from (get_or ys i d).span.from (get_or ys i d).span.to low meets) (both-tests (get_or ys j d).span.from (get_or ys j d).span.from (get_or ys j d).span.to (omega arith) here) in
            let same : times (get_or ys j d).span.from ys ≡ times (get_or ys j d).span.from xs = sum_by-IsPermutation (λ (p : RangePart). cond (in_span p.span (get_or ys j d).span.from) 1 0) xs ys moved in
            let one : times (get_or ys j d).span.from xs ≤ 1 = once (get_or ys j d).span.from in
            absurd (omega arith)
      ],
    )

abbrev weight : ℕ → RangePart → ℕ
weight n p = cond (in_span p.span n) (suc p.item) 0

abbrev weighed : Option ℕ → ℕ
weighed None = 0
weighed (Some k) = suc k

weightless : (n : ℕ) (ps : List RangePart) → times n ps ≡ 0 → sum_by (weight n) ps ≡ 0
weightless n [] none = refl
weightless n (p ∷ ps) none =
    let count : times n (p ∷ ps) ≡ cond (in_span p.span n) 1 0 + times n ps = sum_by-cons (λ (q : RangePart). cond (in_span q.span n) 1 0) p ps in
    let whole : sum_by (weight n) (p ∷ ps) ≡ weight n p + sum_by (weight n) ps = sum_by-cons (weight n) p ps in
    let rest : sum_by (weight n) ps ≡ 0 = weightless n ps (omega arith) in
    let first : weight n p ≡ 0 = no-weight (in_span p.span n) (suc p.item) (omega arith) in
    omega arith

weight-is : (n : ℕ) (ps : List RangePart) → times n ps ≤ 1 → sum_by (weight n) ps ≡ weighed (item_in ps n)
weight-is n [] one = refl
weight-is n (p ∷ ps) one =
    let count : times n (p ∷ ps) ≡ cond (in_span p.span n) 1 0 + times n ps = sum_by-cons (λ (q : RangePart). cond (in_span q.span n) 1 0) p ps in
    sum_by-cons (weight n) p ps ∙
    elim (in_span p.span n) as (λ b. cond b 1 0 + times n ps ≤ 1 → cond b (suc p.item) 0 + sum_by (weight n) ps ≡ weighed (option_map (λ (q : RangePart). q.item) (cond b (Some p) (find (λ (q : RangePart). in_span q.span n) ps)))) [
      | true ↦ λ h. let rest : sum_by (weight n) ps ≡ 0 = weightless n ps (omega arith) in omega arith
      | false ↦ λ h. let rest = weight-is n ps (omega arith) in omega arith
    ] (omega arith)

weighed-once : (a b : Option ℕ) → weighed a ≡ weighed b → a ≡ b
weighed-once None None e = refl
weighed-once None (Some k) e = absurd (omega arith)
weighed-once (Some k) None e = absurd (omega arith)
weighed-once (Some k) (Some l) e = let same : k ≡ l = omega arith in ap Some same

pub item-moved : (xs ys : List RangePart) (n : ℕ) → IsPermutation xs ys → times n xs ≤ 1 → item_in ys n ≡ item_in xs n
item-moved xs ys n moved one =
    let same : times n ys ≡ times n xs = sum_by-IsPermutation (λ (p : RangePart). cond (in_span p.span n) 1 0) xs ys moved in
    weighed-once (item_in ys n) (item_in xs n) (sym (weight-is n ys (omega arith)) ∙ sum_by-IsPermutation (weight n) xs ys moved ∙ weight-is n xs one)
