-- Flags that are set one by one.
use Rattle.std.proofs.Common.{◌≡◌, ◌∙◌, ◌+◌, ◌<◌, ◌≤◌, ℕ, zero, suc, Bool, true, false, List, [], ◌∷◌, length, get_or, map, replicate, set, take, Some, cond, add-one, refl, sym, ap, arith}
use Rattle.std.specs.Prelude.{◌==◌, ◌&&◌, ◌||◌, zip}
use Rattle.std.specs.List.{list_any, position_from, range_with_len}
use Rattle.std.proofs.lemmas.Bool.Decides.{nat_tests}
use Rattle.std.proofs.lemmas.List.Folds.{list_any-append}
use Rattle.lin_sections.proofs.TextNumbers.{pairs-more}

pub same-flags : (f g : ℕ → Bool) (s n : ℕ) → ((p : ℕ) → s ≤ p → p < s + n → f p ≡ g p)
    → map f (range_with_len s n) ≡ map g (range_with_len s n)
same-flags f g s zero same = refl
same-flags f g s (suc n) same =
    ap (λ b. b ∷ map f (range_with_len (s + 1) n)) (same s (omega arith) (omega arith))
    ∙ ap (λ bs. g s ∷ bs) (same-flags f g (s + 1) n (λ p le lt. same p (omega arith) (omega arith)))

or-false : (b : Bool) (m n : ℕ) → m < n → b ≡ (b || (m == n))
or-false b m n lt = grind (arith, nat_tests)

or-above : (b : Bool) (m n : ℕ) → n < m → b ≡ (b || (m == n))
or-above b m n lt = grind (arith, nat_tests)

or-same : (b : Bool) (m n : ℕ) → m ≡ n → true ≡ (b || (m == n))
or-same b m n e = grind (arith, nat_tests)

flag-set-at : (f : ℕ → Bool) (s n k : ℕ) → k < n
    → set (map f (range_with_len s n)) k true ≡ map (λ p. f p || (s + k == p)) (range_with_len s n)
flag-set-at f s zero k lt = absurd (omega arith)
flag-set-at f s (suc n) zero lt =
    ap (λ b. b ∷ map f (range_with_len (s + 1) n)) (or-same (f s) (s + 0) s (omega arith))
    ∙ ap (λ bs. (f s || (s + 0 == s)) ∷ bs) (same-flags f (λ p. f p || (s + 0 == p)) (s + 1) n (λ p le lt. or-false (f p) (s + 0) p (omega arith)))
flag-set-at f s (suc n) (suc k) lt =
    ap (λ bs. f s ∷ bs) (flag-set-at f (s + 1) n k (omega arith)
    ∙ same-flags (λ p. f p || (s + 1 + k == p)) (λ p. f p || (s + suc k == p)) (s + 1) n
    (λ p le lt. ap (λ m. f p || (m == p)) (omega arith)))
    ∙ ap (λ b. b ∷ map (λ p. f p || (s + suc k == p)) (range_with_len (s + 1) n)) (or-above (f s) (s + suc k) s (omega arith))

-- one flag more
pub flag-set : (f : ℕ → Bool) (n k : ℕ) → k < n
    → set (map f (range_with_len 0 n)) k true ≡ map (λ p. f p || (true && k == p)) (range_with_len 0 n)
flag-set f n k lt =
    flag-set-at f 0 n k lt ∙ same-flags (λ p. f p || (0 + k == p)) (λ p. f p || (true && k == p)) 0 n (λ p le within. ap (λ m. f p || (m == p)) (omega arith))

pub not-marked : (f : ℕ → Bool) (n k : ℕ) → map f (range_with_len 0 n) ≡ map (λ p. f p || (false && k == p)) (range_with_len 0 n)
not-marked f n k = same-flags f (λ p. f p || (false && k == p)) 0 n (λ p le lt. grind arith)

past-marked : (b c : Bool) (m n : ℕ) → n < m → b ≡ (b || (c && m == n))
past-marked b c m n lt = grind (arith, nat_tests)

pub marked-past : (f : ℕ → Bool) (b : Bool) (n k : ℕ) → n ≤ k → map f (range_with_len 0 n) ≡ map (λ p. f p || (b && k == p)) (range_with_len 0 n)
marked-past f b n k past = same-flags f (λ p. f p || (b && k == p)) 0 n (λ p le lt. past-marked (f p) b k p (omega arith))

-- the flag of a place
flag-from : (f : ℕ → Bool) (s n k : ℕ) → k < n → get_or (map f (range_with_len s n)) k false ≡ f (s + k)
flag-from f s zero k lt = absurd (omega arith)
flag-from f s (suc n) zero lt = ap f (omega arith)
flag-from f s (suc n) (suc k) lt = flag-from f (s + 1) n k (omega arith) ∙ ap f (omega arith)

pub flag-at : (f : ℕ → Bool) (n k : ℕ) → k < n → get_or (map f (range_with_len 0 n)) k false ≡ f k
flag-at f n k lt = flag-from f 0 n k lt ∙ ap f (omega arith)

-- a place that was found
pub found-below : {X : Type 0} (p : X → Bool) (k : ℕ) (xs : List X) (n : ℕ) → Some n ≡ position_from p k xs → n < k + length xs
found-below p k [] n e = absurd cc
found-below p k (x ∷ xs) n e =
    elim (p x) as (λ b. Some n ≡ cond b (Some k) (position_from p (k + 1) xs) → n < k + suc (length xs)) [
      | true ↦ λ e. let same : n ≡ k = cc in omega arith
      | false ↦ λ e. let less : n < k + 1 + length xs = found-below p (k + 1) xs n e in omega arith
    ] e

-- no flag is set
pub all-unmarked : (s n : ℕ) → replicate n false ≡ map (λ p. false) (range_with_len s n)
all-unmarked s zero = refl
all-unmarked s (suc n) = ap (λ bs. false ∷ bs) (all-unmarked (s + 1) n)

or-nothing : (a b : Bool) → (a || b) ≡ (a || (b || false))
or-nothing true b = refl
or-nothing false true = refl
or-nothing false false = refl

-- a pair more
pub marked-more : (places : List ℕ) (flags : List Bool) (i place : ℕ) (flag : Bool) → i < length places → i < length flags
    → place ≡ get_or places i 0 → flag ≡ get_or flags i flag → (p : ℕ)
    → (list_any (λ (x : ℕ × Bool). x.1 && x.0 == p) (zip (take i places) (take i flags)) || (flag && place == p))
    ≡ list_any (λ (x : ℕ × Bool). x.1 && x.0 == p) (zip (take (i + 1) places) (take (i + 1) flags))
marked-more places flags i place flag l m is set_is p =
    let test = λ (x : ℕ × Bool). x.1 && x.0 == p in
    let before : List (ℕ × Bool) = zip (take i places) (take i flags) in
    or-nothing (list_any test before) (flag && place == p)
    ∙ ap (λ n. list_any test before || ((flag && n == p) || false)) is
    ∙ ap (λ b. list_any test before || ((b && get_or places i 0 == p) || false)) set_is
    ∙ sym (list_any-append test before ((get_or places i 0, get_or flags i flag) ∷ []))
    ∙ ap (list_any test) (sym (pairs-more places flags i 0 flag l m))
    ∙ ap (λ n. list_any test (zip (take n places) (take n flags))) (sym (add-one i))
