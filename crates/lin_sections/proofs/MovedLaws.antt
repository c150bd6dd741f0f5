-- Which entries were moved: none exactly if the places rise.
use Rattle.std.proofs.Common.{◌≡◌, ◌≢◌, ◌∙◌, ◌+◌, ◌<◌, ◌≤◌, ℕ, zero, suc, Bool, true, false, not, List, [], ◌∷◌, ◌++◌, length, get_or, set, replicate, refl, sym, ap, subst, zero-add, arith}
use Rattle.std.specs.Prelude.{◌==◌, ◌&&◌, ◌||◌, fold, max, nat_lt, Option, Some, None}
use Rattle.std.specs.List.{list_any, range_with_len}
use Rattle.std.specs.Option.{option_map_or}
use Rattle.std.proofs.lemmas.Bool.Decides.{nat_tests}
use Rattle.std.proofs.lemmas.List.{get_or-set_other}
use Rattle.std.proofs.lemmas.List.FromFn.{get_or-range_with_len, length-range_with_len}
use Rattle.std.proofs.lemmas.List.Quantifiers.{position-Some}
use Rattle.lin_sections.specs.Moved.{chain, chain_lengths, is_below, link, longest_before, moved_flags, without_marks, with_length}
use Rattle.lin_sections.proofs.MovedChains.{longest-none, number-found}

-- places that rise, from one on
abbrev pub Rising : ℕ → List ℕ → Type 0
Rising k [] = Unit {0}
Rising k (p ∷ ps) = (k ≤ p) × Rising (p + 1) ps

abbrev pub has : ℕ → List ℕ → Bool
has i cs = list_any (λ c. c == i) cs

same-number : (a b : ℕ) → (a == b) ≡ true → a ≡ b
same-number a b e = grind (arith, nat_tests)

number-same : (a b : ℕ) → a ≡ b → (a == b) ≡ true
number-same a b e = grind (arith, nat_tests)

other-number : (a b : ℕ) → (a == b) ≡ false → a ≢ b
other-number a b e same = grind (arith, nat_tests)

-- ---- flags

set-here : (flags : List Bool) (i : ℕ) → get_or (set flags i false) i false ≡ false
set-here [] i = refl
set-here (b ∷ bs) zero = refl
set-here (b ∷ bs) (suc i) = set-here bs i

and-false : (b : Bool) → (b && false) ≡ false
and-false true = refl
and-false false = refl

and-true : (b : Bool) → (b && true) ≡ b
and-true true = refl
and-true false = refl

flag-after : (flags : List Bool) (c i : ℕ) → get_or (set flags c false) i false ≡ (get_or flags i false && not (c == i))
flag-after flags c i =
    elim (c == i) as (λ b. ((c == i) ≡ b) → get_or (set flags c false) i false ≡ (get_or flags i false && not b)) [
      | true ↦ λ e. ap (λ k. get_or (set flags k false) i false) (same-number c i e) ∙ set-here flags i ∙ sym (and-false (get_or flags i false))
      | false ↦ λ e. get_or-set_other flags c i false false (λ s. other-number c i e (sym s)) ∙ sym (and-true (get_or flags i false))
    ] refl

and-both : (b c d : Bool) → ((b && not c) && not d) ≡ (b && not (c || d))
and-both true true d = refl
and-both true false d = refl
and-both false c d = refl

pub unmarked-at : (flags : List Bool) (cs : List ℕ) (i : ℕ) → get_or (without_marks flags cs) i false ≡ (get_or flags i false && not (has i cs))
unmarked-at flags [] i = sym (and-true (get_or flags i false))
unmarked-at flags (c ∷ cs) i =
    unmarked-at (set flags c false) cs i
    ∙ ap (λ b. b && not (has i cs)) (flag-after flags c i)
    ∙ and-both (get_or flags i false) (c == i) (has i cs)

all-true : (n i : ℕ) → i < n → get_or (replicate n true) i false ≡ true
all-true zero i lt = absurd (omega arith)
all-true (suc n) zero lt = refl
all-true (suc n) (suc i) lt = all-true n i (omega arith)

-- ---- a chain of all places

true-below : (a b : ℕ) → a < b → nat_lt a b ≡ true
true-below a b lt = grind (arith, nat_tests)

not-same : (a b : ℕ) → a ≢ b → (a == b) ≡ false
not-same a b other = grind (arith, nat_tests)

second-true : (a b : Bool) → (a && b) ≡ true → b ≡ true
second-true true b e = e
second-true false b e = absurd cc

below-true : (a b : ℕ) → nat_lt a b ≡ true → a < b
below-true a b e = grind (arith, nat_tests)

link-below : (ps ns : List ℕ) (n count i : ℕ) (end : Option ℕ) → link ps ns n count end ≡ Some i → i < count
link-below ps ns n count i end e =
    let at : i < length (range_with_len 0 count) =
    (position-Some (λ k. get_or ns k 0 == n && is_below (get_or ps k 0) end) (range_with_len 0 count) i 0 e).0 in
    omega (arith, length-range_with_len 0 count)

link-end : (ps ns : List ℕ) (n count i : ℕ) (end : Option ℕ) → link ps ns n count end ≡ Some i → is_below (get_or ps i 0) end ≡ true
link-end ps ns n count i end e =
    let within : i < count = link-below ps ns n count i end e in
    let there : (get_or ns i 0 == n && is_below (get_or ps i 0) end) ≡ true =
    ap (λ k. get_or ns k 0 == n && is_below (get_or ps k 0) end) (sym (get_or-range_with_len 0 count i 0 within ∙ zero-add i))
    ∙ (position-Some (λ k. get_or ns k 0 == n && is_below (get_or ps k 0) end) (range_with_len 0 count) i 0 e).1 in
    second-true (get_or ns i 0 == n) (is_below (get_or ps i 0) end) there

-- links are below the count
pub links-below : (ps ns : List ℕ) (n count : ℕ) (end : Option ℕ) (j : ℕ) → has j (chain ps ns n count end) ≡ true → j < count
links-below ps ns zero count end j h = absurd cc
links-below ps ns (suc n) count end j h =
    elim (link ps ns (suc n) count end) as (λ o. (link ps ns (suc n) count end ≡ o) → has j (option_map_or (λ i. i ∷ chain ps ns n i (Some (get_or ps i 0))) o []) ≡ true → j < count) [
      | None ↦ λ e h. absurd cc
      | Some i ↦ λ e h.
          let within : i < count = link-below ps ns (suc n) count i end e in
          elim (i == j) as (λ b. ((i == j) ≡ b) → (b || has j (chain ps ns n i (Some (get_or ps i 0)))) ≡ true → j < count) [
            | true ↦ λ same h. let at : i ≡ j = same-number i j same in omega arith
            | false ↦ λ other h. let below : j < i = links-below ps ns n i (Some (get_or ps i 0)) j h in omega arith
          ] refl h
    ] refl h

-- each place below a count is below the next one, and the last below the end
pub record RisesTo (ps : List ℕ) (count : ℕ) (end : Option ℕ) : Type 0 where
  pub adjacent : (i : ℕ) → i + 1 < count → get_or ps i 0 < get_or ps (i + 1) 0
  pub last : (i : ℕ) → i + 1 ≡ count → is_below (get_or ps i 0) end ≡ true

link-rest : (i j : ℕ) (cs : List ℕ) → j < i → ((i == j) || has j cs) ≡ true → has j cs ≡ true
link-rest i j cs lt h =
    let other : (i == j) ≡ false = grind (arith, nat_tests) in
    ap (λ b. b || has j cs) (sym other) ∙ h

link-last : (ps ns : List ℕ) (n i count : ℕ) → i < count → ((j : ℕ) → j < count → has j (i ∷ chain ps ns n i (Some (get_or ps i 0))) ≡ true) → i + 1 ≡ count
link-last ps ns n i count lt all =
    elim (nat_lt (i + 1) count) as (λ b. (nat_lt (i + 1) count ≡ b) → i + 1 ≡ count) [
      | true ↦ λ e.
          let more : i + 1 < count = grind (arith, nat_tests) in
          let other : (i == i + 1) ≡ false = grind (arith, nat_tests) in
          let below : i + 1 < i = links-below ps ns n i (Some (get_or ps i 0)) (i + 1) (ap (λ b. b || has (i + 1) (chain ps ns n i (Some (get_or ps i 0)))) (sym other) ∙ all (i + 1) more) in
          absurd (omega arith)
      | false ↦ λ e. let no : count ≤ i + 1 = grind (arith, nat_tests) in omega arith
    ] refl

link-step : (ps : List ℕ) (i j count : ℕ) → i + 1 ≡ count → j + 1 < count → RisesTo ps i (Some (get_or ps i 0)) → get_or ps j 0 < get_or ps (j + 1) 0
link-step ps i j count at lt rest =
    elim (j + 1 == i) as (λ b. ((j + 1 == i) ≡ b) → get_or ps j 0 < get_or ps (j + 1) 0) [
      | true ↦ λ e.
          let same : j + 1 ≡ i = same-number (j + 1) i e in
          let below : nat_lt (get_or ps j 0) (get_or ps i 0) ≡ true = rest.last j same in
          let lower : get_or ps j 0 < get_or ps i 0 = below-true (get_or ps j 0) (get_or ps i 0) below in
          subst (λ k. get_or ps j 0 < get_or ps k 0) (sym same) lower
      | false ↦ λ e. rest.adjacent j (let other : j + 1 ≢ i = other-number (j + 1) i e in omega arith)
    ] refl

pub all-linked : (ps ns : List ℕ) (n count : ℕ) (end : Option ℕ)
    → ((j : ℕ) → j < count → has j (chain ps ns n count end) ≡ true) → RisesTo ps count end
all-linked ps ns zero count end all = record {
  adjacent = λ i lt. absurd (let h : false ≡ true = all i (omega arith) in cc);
  last = λ i e. absurd (let h : false ≡ true = all i (omega arith) in cc);
}
all-linked ps ns (suc n) count end all =
    elim (link ps ns (suc n) count end) as (λ o. (link ps ns (suc n) count end ≡ o) → ((j : ℕ) → j < count → has j (option_map_or (λ i. i ∷ chain ps ns n i (Some (get_or ps i 0))) o []) ≡ true) → RisesTo ps count end) [
      | None ↦ λ e all. record {
        adjacent = λ i lt. absurd (let h : false ≡ true = all i (omega arith) in cc);
        last = λ i e. absurd (let h : false ≡ true = all i (omega arith) in cc);
      }
      | Some i ↦ λ e all.
          let within : i < count = link-below ps ns (suc n) count i end e in
          let end_is : i + 1 ≡ count = link-last ps ns n i count within all in
          let rest : RisesTo ps i (Some (get_or ps i 0)) = all-linked ps ns n i (Some (get_or ps i 0)) (λ j lt. link-rest i j (chain ps ns n i (Some (get_or ps i 0))) lt (all j (omega arith))) in
          record {
            adjacent = λ j lt. link-step ps i j count end_is lt rest;
            last = λ j at. ap (λ k. is_below (get_or ps k 0) end) (let same : j ≡ i = omega arith in same) ∙ link-end ps ns (suc n) count i end e;
          }
    ] refl all

adjacent-rising : (k : ℕ) (ps : List ℕ) → (0 < length ps → k ≤ get_or ps 0 0) → ((i : ℕ) → i + 1 < length ps → get_or ps i 0 < get_or ps (i + 1) 0) → Rising k ps
adjacent-rising k [] first next = tt
adjacent-rising k (p ∷ ps) first next = (
  first (omega arith),
  adjacent-rising (p + 1) ps
      (λ lt. let up : p < get_or (p ∷ ps) 1 0 = next 0 (omega arith) in let up_is : p < get_or ps 0 0 = up in omega arith)
      (λ i lt.
      let up : get_or ps i 0 < get_or (p ∷ ps) (suc i + 1) 0 = next (suc i) (omega arith) in
      let one : suc i + 1 ≡ suc (i + 1) = omega arith in
      subst (λ k. get_or ps i 0 < get_or (p ∷ ps) k 0) one up),
)

not-not : (b : Bool) → not b ≡ false → b ≡ true
not-not true e = refl
not-not false e = absurd cc

-- entries of which none was moved rise
pub none-moved : (ps : List ℕ) → ((i : ℕ) → i < length ps → get_or (moved_flags ps) i false ≡ false) → Rising 0 ps
none-moved ps none =
    let ns : List ℕ = chain_lengths ps in
    let cs : List ℕ = chain ps ns (fold max 0 ns) (length ps) None in
    let linked : (i : ℕ) → i < length ps → has i cs ≡ true = λ i lt.
    not-not (has i cs) (ap (λ b. b && not (has i cs)) (sym (all-true (length ps) i lt)) ∙ sym (unmarked-at (replicate (length ps) true) cs i) ∙ none i lt) in
    let rises : RisesTo ps (length ps) None = all-linked ps ns (fold max 0 ns) (length ps) None linked in
    adjacent-rising 0 ps (λ lt. omega arith) rises.adjacent

-- ---- numbers that rise one by one

range-longest : (place s t j n : ℕ) → j < n → s + j < place → longest_before place (range_with_len s n) (range_with_len t (suc j)) ≡ t + j
range-longest place s t j zero lt below = absurd (omega arith)
range-longest place s t zero (suc n) lt below =
    let first : nat_lt s place ≡ true = grind (arith, nat_tests) in
    rw first (let none : longest_before place (range_with_len (s + 1) n) [] ≡ 0 = longest-none place (range_with_len (s + 1) n) in
    ap (max t) none ∙ omega arith)
range-longest place s t (suc j) (suc n) lt below =
    let first : nat_lt s place ≡ true = grind (arith, nat_tests) in
    rw first (ap (max t) (range-longest place (s + 1) (t + 1) j n (omega arith) (omega arith)) ∙ omega arith)

range-length : (n k : ℕ) → k < n → suc (longest_before k (range_with_len 0 n) (range_with_len 1 k)) ≡ 1 + k
range-length n zero lt = ap suc (longest-none 0 (range_with_len 0 n))
range-length n (suc k) lt =
    let longest : longest_before (suc k) (range_with_len 0 n) (range_with_len 1 (suc k)) ≡ 1 + k = range-longest (suc k) 0 1 k n (omega arith) (omega arith) in
    omega (arith, longest)

range-more : (s k : ℕ) → range_with_len s k ++ (s + k) ∷ [] ≡ range_with_len s (suc k)
range-more s zero = ap (λ n. n ∷ []) (omega arith)
range-more s (suc k) = ap (λ ns. s ∷ ns) (ap (λ n. range_with_len (s + 1) k ++ n ∷ []) (omega arith) ∙ range-more (s + 1) k)

lengths-from : (n k m : ℕ) → k + m ≡ n → fold (with_length (range_with_len 0 n)) (range_with_len 1 k) (range_with_len k m) ≡ range_with_len 1 n
lengths-from n k zero at = ap (range_with_len 1) (omega arith)
lengths-from n k (suc m) at =
    ap (λ ls. fold (with_length (range_with_len 0 n)) ls (range_with_len (k + 1) m))
    (ap (λ l. range_with_len 1 k ++ l ∷ []) (range-length n k (omega arith)) ∙ range-more 1 k ∙ ap (range_with_len 1) (let one : suc k ≡ k + 1 = omega arith in one))
    ∙ lengths-from n (k + 1) m (omega arith)

range-lengths : (n : ℕ) → chain_lengths (range_with_len 0 n) ≡ range_with_len 1 n
range-lengths n = lengths-from n 0 n (omega arith)

range-greatest : (s n : ℕ) → fold max s (range_with_len (s + 1) n) ≡ s + n
range-greatest s zero = omega arith
range-greatest s (suc n) = ap (λ m. fold max m (range_with_len (s + 1 + 1) n)) (omega arith) ∙ range-greatest (s + 1) n ∙ omega arith

-- the chain of all places
range-link : (n c : ℕ) (end : Option ℕ) → suc c ≤ n → is_below c end ≡ true → Some c ≡ link (range_with_len 0 n) (range_with_len 1 n) (suc c) (suc c) end
range-link n c end le below =
    number-found (λ k. get_or (range_with_len 1 n) k 0 == suc c && is_below (get_or (range_with_len 0 n) k 0) end) (suc c) c (omega arith)
    (λ k lt. let at : get_or (range_with_len 1 n) k 0 ≡ 1 + k = get_or-range_with_len 1 n k 0 (omega arith) in
    let other : (get_or (range_with_len 1 n) k 0 == suc c) ≡ false = ap (λ m. m == suc c) at ∙ not-same (1 + k) (suc c) (omega arith) in
    ap (λ b. b && is_below (get_or (range_with_len 0 n) k 0) end) other)
    (ap (λ m. m == suc c && is_below (get_or (range_with_len 0 n) c 0) end) (get_or-range_with_len 1 n c 0 (omega arith))
    ∙ ap (λ b. b && is_below (get_or (range_with_len 0 n) c 0) end) (number-same (1 + c) (suc c) (omega arith))
    ∙ ap (λ m. is_below m end) (get_or-range_with_len 0 n c 0 (omega arith) ∙ zero-add c) ∙ below)

range-linked : (n c : ℕ) (end : Option ℕ) → c ≤ n → ((k : ℕ) → k + 1 ≡ c → is_below k end ≡ true) → (i : ℕ) → i < c
    → has i (chain (range_with_len 0 n) (range_with_len 1 n) c c end) ≡ true
range-linked n zero end le below i lt = absurd (omega arith)
range-linked n (suc c) end le below i lt =
    let ps : List ℕ = range_with_len 0 n in
    let ns : List ℕ = range_with_len 1 n in
    let first : c ∷ chain ps ns c c (Some (get_or ps c 0)) ≡ chain ps ns (suc c) (suc c) end =
    ap (λ o. option_map_or (λ i. i ∷ chain ps ns c i (Some (get_or ps i 0))) o []) (range-link n c end le (below c (omega arith))) in
    ap (has i) (sym first)
    ∙ elim (c == i) as (λ b. ((c == i) ≡ b) → (b || has i (chain ps ns c c (Some (get_or ps c 0)))) ≡ true) [
      | true ↦ λ e. refl
      | false ↦ λ e.
          let at : get_or ps c 0 ≡ c = get_or-range_with_len 0 n c 0 (omega arith) ∙ zero-add c in
          let other : c ≢ i = other-number c i e in
          range-linked n c (Some (get_or ps c 0)) (omega arith) (λ k up. ap (λ m. nat_lt k m) at ∙ true-below k c (omega arith)) i (omega arith)
    ] refl

-- entries that kept their places weren't moved
pub kept-places : (n i : ℕ) → i < n → get_or (moved_flags (range_with_len 0 n)) i false ≡ false
kept-places n i lt =
    let ps : List ℕ = range_with_len 0 n in
    let size : length ps ≡ n = length-range_with_len 0 n in
    let greatest : fold max 0 (range_with_len 1 n) ≡ n = range-greatest 0 n ∙ zero-add n in
    let linked : has i (chain ps (chain_lengths ps) (fold max 0 (chain_lengths ps)) (length ps) None) ≡ true =
    ap (λ ns. has i (chain ps ns (fold max 0 ns) (length ps) None)) (range-lengths n)
    ∙ (λ j. has i (chain ps (range_with_len 1 n) (greatest j) (size j) None))
    ∙ range-linked n n None (omega arith) (λ k e. refl) i lt in
    unmarked-at (replicate (length ps) true) (chain ps (chain_lengths ps) (fold max 0 (chain_lengths ps)) (length ps) None) i
    ∙ ap (λ b. get_or (replicate (length ps) true) i false && not b) linked
    ∙ and-false (get_or (replicate (length ps) true) i false)
