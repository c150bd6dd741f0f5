-- At most one list is in order and has the findings of a description.
use Rattle.std.proofs.Common.{◌≡◌, ℕ, suc, ◌+◌, ◌<◌, Bool, true, false, cond, List, [], ◌∷◌, length, get_or, sym, ap, refl, ◌∙◌, subst, arith}
use Rattle.std.specs.Prelude.{IsSorted, sum_by}
use Rattle.std.specs.List.Sorted.{IsSortedBy}
use Rattle.std.specs.declared.cmp.Ordering.{Ordering}
use Rattle.std.specs.declared.cmp.Ordering.TheVariants.{Less, Equal, Greater}
use Rattle.std.specs.Ordering.{is_lt, nat_cmp, ordering_then, ordering_reverse}
use Rattle.std.specs.Cmp.{IsTotalOrder, on_total, then_total}
use Rattle.std.proofs.lemmas.Cmp.{nat_cmp_total}
use Rattle.std.proofs.lemmas.List.MinMax.{ranks_by}
use Rattle.std.proofs.lemmas.List.Sorted.{sorted_far, sum_by-IsPermutation}
use Rattle.std.proofs.lemmas.List.Sums.{sum_by-cons}
use Rattle.std.proofs.lemmas.Bool.Decides.{nat_tests}
use Rattle.lin_cluster.specs.Findings.{candidates, finding_cmp, AreFindings}
use Rattle.lin_cluster.specs.declared.finding.Finding.{Finding}
use Rattle.lin_parts.specs.declared.description.Description.{Description}

-- ---- the order of findings

pub finding_total : IsTotalOrder finding_cmp
finding_total = then_total (on_total (λ (f : Finding). f.line) nat_cmp_total) (then_total (on_total (λ (f : Finding). f.column) nat_cmp_total) (then_total (on_total (λ (f : Finding). f.number) nat_cmp_total) (on_total (λ (f : Finding). f.needed_us) nat_cmp_total)))

pub then_tied : (p q : Ordering) → ordering_then p q ≡ Equal → (p ≡ Equal) × (q ≡ Equal)
then_tied Less q h = absurd (cc)
then_tied Equal q h = (refl, h)
then_tied Greater q h = absurd (cc)

numbers_tied : (m n : ℕ) → nat_cmp m n ≡ Equal → m ≡ n
numbers_tied m n h = grind (arith, nat_tests)

pub findings_tied : (a b : Finding) → finding_cmp a b ≡ Equal → a ≡ b
findings_tied a b h =
    let l = then_tied (nat_cmp a.line b.line) (ordering_then (nat_cmp a.column b.column) (ordering_then (nat_cmp a.number b.number) (nat_cmp a.needed_us b.needed_us))) h in
    let c = then_tied (nat_cmp a.column b.column) (ordering_then (nat_cmp a.number b.number) (nat_cmp a.needed_us b.needed_us)) l.1 in
    let n = then_tied (nat_cmp a.number b.number) (nat_cmp a.needed_us b.needed_us) c.1 in
    let line : a.line ≡ b.line = numbers_tied a.line b.line l.0 in
    let column : a.column ≡ b.column = numbers_tied a.column b.column c.0 in
    let number : a.number ≡ b.number = numbers_tied a.number b.number n.0 in
    let needed_us : a.needed_us ≡ b.needed_us = numbers_tied a.needed_us b.needed_us n.1 in
    λ i. record { line = line i; column = column i; number = number i; needed_us = needed_us i }

-- ---- lists in order with the same items

zero_sum : {X : Type 0} (f : X → ℕ) (xs : List X) → ((j : ℕ) (d : X) → j < length xs → f (get_or xs j d) ≡ 0) → sum_by f xs ≡ 0
zero_sum f [] all = refl
zero_sum f (x ∷ xs) all =
    let here : f x ≡ 0 = all 0 x (omega arith) in
    let rest : sum_by f xs ≡ 0 = zero_sum f xs (λ j d h. all (suc j) d (omega arith)) in
    omega (arith, sum_by-cons f x xs)

zero_means : (b : Bool) → ◌≡◌ {A = ℕ} (cond b 1 0) 0 → b ≡ false
zero_means true h = absurd (omega arith)
zero_means false h = refl

sorted_tail : {X : Type 0} (lt : X → X → Bool) (x : X) (xs : List X) → IsSortedBy lt (x ∷ xs) → IsSortedBy lt xs
sorted_tail lt x xs up k d low high =
    let e : suc k + 1 ≡ suc (k + 1) = omega arith in
    let h : lt (get_or (x ∷ xs) (suc k + 1) d) (get_or (x ∷ xs) (suc k) d) ≡ false = up (suc k) d (omega arith) (omega arith) in
    subst (λ (n : ℕ). lt (get_or (x ∷ xs) n d) (get_or (x ∷ xs) (suc k) d) ≡ false) e h

-- no item is before the first
first_is_least : {X : Type 0} (R : X → X → Ordering) → IsTotalOrder R → (y : X) (ys : List X) → IsSorted R (y ∷ ys) → sum_by (λ z. cond (is_lt (R z y)) 1 0) (y ∷ ys) ≡ 0
first_is_least {X} R o y ys up =
    zero_sum (λ z. cond (is_lt (R z y)) 1 0) (y ∷ ys) (λ j d h.
    let e : is_lt (R (get_or (y ∷ ys) j d) y) ≡ false = sorted_far (λ a b. is_lt (R a b)) (ranks_by o (λ (x : X). x)) (y ∷ ys) up 0 j d (omega arith) h in
    ap (λ b. cond b 1 0) e)

-- nor is the first of another list with the same items
not_before : {X : Type 0} (R : X → X → Ordering) → IsTotalOrder R → (x y : X) (xs ys : List X) → IsSorted R (y ∷ ys) → ((f : X → ℕ) → sum_by f (x ∷ xs) ≡ sum_by f (y ∷ ys)) → is_lt (R x y) ≡ false
not_before {X} R o x y xs ys up same =
    let f : X → ℕ = λ z. cond (is_lt (R z y)) 1 0 in
    let none : sum_by f (x ∷ xs) ≡ 0 = same f ∙ first_is_least R o y ys up in
    let here : f x ≡ 0 = omega (arith, sum_by-cons f x xs, none) in
    zero_means (is_lt (R x y)) here

tied : (a b : Ordering) → a ≡ ordering_reverse b → is_lt a ≡ false → is_lt b ≡ false → a ≡ Equal
tied a Less e h k = absurd (cc)
tied a Equal e h k = e
tied a Greater e h k = absurd (let g : is_lt a ≡ true = ap is_lt e in cc)

pub ordered_once : {X : Type 0} (R : X → X → Ordering) → IsTotalOrder R → ((x y : X) → R x y ≡ Equal → x ≡ y) → (xs ys : List X) → IsSorted R xs → IsSorted R ys → ((f : X → ℕ) → sum_by f xs ≡ sum_by f ys) → xs ≡ ys
ordered_once R o ties [] [] up also same = refl
ordered_once R o ties [] (y ∷ ys) up also same = absurd (omega (arith, same (λ z. 1), sum_by-cons (λ z. 1) y ys))
ordered_once R o ties (x ∷ xs) [] up also same = absurd (omega (arith, same (λ z. 1), sum_by-cons (λ z. 1) x xs))
ordered_once {X} R o ties (x ∷ xs) (y ∷ ys) up also same =
    let first : x ≡ y = ties x y (tied (R x y) (R y x) (o.antisymm x y) (not_before R o x y xs ys also same) (not_before R o y x ys xs up (λ f. sym (same f)))) in
    let rest : xs ≡ ys = ordered_once R o ties xs ys (sorted_tail (λ a b. is_lt (R a b)) x xs up) (sorted_tail (λ a b. is_lt (R a b)) y ys also) (λ f.
    let e : f x ≡ f y = ap f first in
    omega (arith, same f, sum_by-cons f x xs, sum_by-cons f y ys, e)) in
    λ i. first i ∷ rest i

-- at most one list is the answer
pub one_answer : (d : Description) (found other : List Finding) → AreFindings d found → AreFindings d other → found ≡ other
one_answer d found other is also = ordered_once finding_cmp finding_total findings_tied found other is.ordered also.ordered (λ f. sum_by-IsPermutation f (candidates d) found is.all ∙ sym (sum_by-IsPermutation f (candidates d) other also.all))
