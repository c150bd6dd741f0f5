-- The lengths of chains of entries.
use Rattle.std.proofs.Common.{◌≡◌, ◌+◌, ◌-◌, ◌<◌, ◌≤◌, ℕ, zero, suc, Bool, true, false, List, [], ◌∷◌, length, drop, arith, refl, sym, ap, subst, zero-add, ◌∙◌}
use Rattle.std.specs.Prelude.{All, max, nat_lt, position, slice_index, if◌then◌else◌, Option, Some, None}
use Rattle.std.specs.List.{position_or_len, range_with_len}
use Rattle.std.specs.Option.{option_map_or}
use Rattle.std.proofs.Math.Seq.{drop-nil}
use Rattle.std.proofs.lemmas.Bool.Decides.{nat_tests}
use Rattle.std.proofs.lemmas.Grind.{common_steps}
use Rattle.std.proofs.lemmas.List.{drop_all}
use Rattle.std.proofs.lemmas.List.FromFn.{get_or-range_with_len, length-range_with_len}
use Rattle.std.proofs.lemmas.List.Sums.{position_or_len_is}
use Rattle.lin_sections.specs.Moved.{chain, link, longest_before}

-- among no pairs there is no chain
pub longest-none : (place : ℕ) (ps : List ℕ) → longest_before place ps [] ≡ 0
longest-none place [] = refl
longest-none place (p ∷ ps) = refl

-- no chain is longer than the longest of all
pub longest-few : (place : ℕ) (ps ns : List ℕ) (most : ℕ) → All (λ n. n ≤ most) ns
    → longest_before place ps ns ≤ most
longest-few place [] ns most few = omega arith
longest-few place (p ∷ ps) [] most few = omega arith
longest-few place (p ∷ ps) (n ∷ ns) most few =
    let others : longest_before place ps ns ≤ most = longest-few place ps ns most (λ k d lt. few (suc k) d (omega arith)) in
    let first : n ≤ most = few 0 0 (omega arith) in
    grind arith

-- nor among the last pairs alone
pub longest-part : (place : ℕ) (ps ns : List ℕ) (k : ℕ)
    → longest_before place (drop k ps) (drop k ns) ≤ longest_before place ps ns
longest-part place ps ns zero = omega arith
longest-part place ps [] (suc k) =
    let none : longest_before place (drop (suc k) ps) (drop (suc k) []) ≡ 0 =
    ap (longest_before place (drop (suc k) ps)) (drop-nil (suc k)) ∙ longest-none place (drop (suc k) ps) in
    omega arith
longest-part place [] (n ∷ ns) (suc k) =
    let none : longest_before place (drop (suc k) []) (drop (suc k) (n ∷ ns)) ≡ 0 =
    ap (λ qs. longest_before place qs (drop (suc k) (n ∷ ns))) (drop-nil (suc k)) in
    omega arith
longest-part place (p ∷ ps) (n ∷ ns) (suc k) =
    let others : longest_before place (drop k ps) (drop k ns) ≤ longest_before place ps ns = longest-part place ps ns k in
    grind arith

-- one pair more
pub longest-more : (place : ℕ) (ps ns : List ℕ) (k : ℕ) → k < length ns → length ns ≤ length ps
    → longest_before place (drop k ps) (drop k ns)
    ≡ (if nat_lt (slice_index ps k) place
    then max (slice_index ns k) (longest_before place (drop (k + 1) ps) (drop (k + 1) ns))
    else longest_before place (drop (k + 1) ps) (drop (k + 1) ns))
longest-more place ps ns k lt le = grind (arith, common_steps)

pub longest-init : (place : ℕ) (ps ns : List ℕ)
    → 0 ≡ longest_before place (drop (length ns) ps) (drop (length ns) ns)
longest-init place ps ns =
    sym (ap (longest_before place (drop (length ns) ps)) (drop_all (length ns) ns (omega arith))
    ∙ longest-none place (drop (length ns) ps))

-- ---- the first number that passes a test

first-number : (p : ℕ → Bool) (count i : ℕ) → i ≤ count → ((k : ℕ) → k < i → p k ≡ false) → (i < count → p i ≡ true)
    → position_or_len p (range_with_len 0 count) ≡ i
first-number p count i le before here =
    position_or_len_is p (range_with_len 0 count) i 0 (rw (length-range_with_len 0 count) le)
    (λ k lt. ap p (get_or-range_with_len 0 count k 0 (omega arith) ∙ zero-add k) ∙ before k lt)
    (λ lt. let there : i < count = subst (λ n. i < n) (length-range_with_len 0 count) lt in
    ap p (get_or-range_with_len 0 count i 0 there ∙ zero-add i) ∙ here there)

pub number-found : (p : ℕ → Bool) (count i : ℕ) → i < count → ((k : ℕ) → k < i → p k ≡ false) → p i ≡ true
    → Some i ≡ position p (range_with_len 0 count)
number-found p count i lt before here =
    let first : position_or_len p (range_with_len 0 count) ≡ i = first-number p count i (omega arith) before (λ _. here) in
    let size : length (range_with_len 0 count) ≡ count = length-range_with_len 0 count in
    rw (first, size) (grind arith)

none-past : (k n : ℕ) → n ≤ k → None ≡ (if nat_lt k n then Some k else None)
none-past k n le = grind (arith, nat_tests)

pub number-not-found : (p : ℕ → Bool) (count : ℕ) → ((k : ℕ) → k < count → p k ≡ false)
    → None ≡ position p (range_with_len 0 count)
number-not-found p count before =
    let first : position_or_len p (range_with_len 0 count) ≡ count =
    first-number p count count (omega arith) before (λ lt. absurd (omega arith)) in
    let size : length (range_with_len 0 count) ≡ count = length-range_with_len 0 count in
    rw (first, size) (none-past count count (omega arith))

-- ---- the links of a chain

pub chain-ends : (ps ns : List ℕ) (n count : ℕ) (end : Option ℕ) → 0 < n → None ≡ link ps ns n count end
    → chain ps ns n count end ≡ []
chain-ends ps ns zero count end lt none = absurd (omega arith)
chain-ends ps ns (suc n) count end lt none =
    ap (λ o. option_map_or (λ i. i ∷ chain ps ns n i (Some (slice_index ps i))) o []) (sym none)

pub chain-goes-on : (ps ns : List ℕ) (n count i : ℕ) (end : Option ℕ) → 0 < n → Some i ≡ link ps ns n count end
    → chain ps ns n count end ≡ i ∷ chain ps ns (n - 1) i (Some (slice_index ps i))
chain-goes-on ps ns zero count i end lt some = absurd (omega arith)
chain-goes-on ps ns (suc n) count i end lt some =
    let less : suc n - 1 ≡ n = omega arith in
    rw less (ap (λ o. option_map_or (λ j. j ∷ chain ps ns n j (Some (slice_index ps j))) o []) (sym some))
