-- What a list of findings that are all slots too short says of what it was collected from, and
-- what a whole list has.
use Rattle.std.proofs.Common.{◌≡◌, ◌<◌, ◌≤◌, ◌==◌, ◌+◌, ℕ, zero, suc, Bool, true, false, cond, ◌||◌, List, [], ◌∷◌, ◌++◌, length, map, get_or, refl, ap, arith}
use Rattle.std.specs.Prelude.{All, slice_get, count_by}
use Rattle.std.specs.List.{flat_map, list_any, enumerate_from, AllZip}
use Rattle.std.proofs.lemmas.Bool.{eqb-false}
use Rattle.std.proofs.lemmas.List.Elements.{All-nil, All-cons, All-head, All-tail}
use Rattle.std.proofs.lemmas.List.Sums.{sum_by-cons, get_or-le-sum_by}
use Rattle.lin_cluster.specs.FindingsNames.{when, at_name}
use Rattle.lin_cluster.specs.Limits.{past}
use Rattle.lin_cluster.specs.declared.finding.Finding.{Finding}
use Rattle.lin_cluster.specs.declared.finding.FindingKind.TheVariants.{LimitPassed}
use Rattle.lin_parts.proofs.Pairs.{all-front, all-back}
use Rattle.lin_parts.specs.declared.description.Name.{Name}

-- slots that are too short (9), and no other finding
abbrev pub IsShort : Finding → Type 0
IsShort f = f.number ≡ 9

abbrev pub AreShort : List Finding → Type 0
AreShort fs = All IsShort fs

-- over any lists, so that nothing unfolds
pub two-parts : {X : Type 0} (P : X → Type 0) (a b : List X) → All P (a ++ b) → All P a × All P b
two-parts P a b all = (all-front P a b all, all-back P a b all)

pub three-parts : {X : Type 0} (P : X → Type 0) (a b c : List X) → All P (a ++ b ++ c) → All P a × All P b × All P c
three-parts P a b c all =
    let back = two-parts P (a ++ b) c all
    in let front = two-parts P a b back.0
    in (front.0, front.1, back.1)

pub four-parts : {X : Type 0} (P : X → Type 0) (a b c d : List X) → All P (a ++ b ++ c ++ d) → All P a × All P b × All P c × All P d
four-parts P a b c d all =
    let back = two-parts P (a ++ b ++ c) d all
    in let front = three-parts P a b c back.0
    in (front.0, front.1, front.2, back.1)

pub in-each : {X A : Type 0} (P : A → Type 0) (f : X → List A) (xs : List X) → All P (flat_map f xs) → All (λ x. All P (f x)) xs
in-each P f [] all = All-nil (λ x. All P (f x))
in-each P f (x ∷ xs) all =
    let parts = two-parts P (f x) (flat_map f xs) all
    in All-cons (λ y. All P (f y)) x xs parts.0 (in-each P f xs parts.1)

-- another finding isn't there
pub when-not : (b : Bool) (f : Finding) → (f.number == 9) ≡ false → AreShort (when b f) → b ≡ false
when-not true f other all = absurd (eqb-false f.number 9 other (All-head IsShort f [] all))
when-not false f other all = refl

-- nothing after the limit
pub within-limit : {X : Type 0} (name : X → Name) (xs : List X) (n : ℕ) → AreShort (past name (slice_get xs n)) → length xs ≤ n
within-limit name [] n all = omega arith
within-limit name (x ∷ xs) zero all = absurd (eqb-false 17 9 refl (All-head IsShort (at_name LimitPassed (name x)) [] all))
within-limit name (x ∷ xs) (suc n) all = let h = within-limit name xs n all in omega arith

-- of each item with its number
pub at-each : {X : Type 0} (P : ℕ × X → Type 0) (n : ℕ) (xs : List X) → All P (enumerate_from n xs) → (k : ℕ) (d : X) → k < length xs → P (n + k, get_or xs k d)
at-each P n [] all k d lt = absurd (omega arith)
at-each P n (x ∷ xs) all zero d lt = let e : n + 0 ≡ n = omega arith in rw e (All-head P (n, x) (enumerate_from (n + 1) xs) all)
at-each P n (x ∷ xs) all (suc k) d lt =
    let e : n + suc k ≡ (n + 1) + k = omega arith
    in rw e (at-each P (n + 1) xs (All-tail P (n, x) (enumerate_from (n + 1) xs) all) k d (omega arith))

pub of-each : {X : Type 0} (P : ℕ × X → Type 0) (xs : List X) → All P (enumerate_from 0 xs) → (k : ℕ) (d : X) → k < length xs → P (k, get_or xs k d)
of-each P xs all k d lt = let there : P (0 + k, get_or xs k d) = at-each P 0 xs all k d lt in let e : 0 + k ≡ k = omega arith in rw e at there

pub from-each : {X : Type 0} (P : ℕ × X → Type 0) (n : ℕ) (xs : List X) → ((k : ℕ) (d : X) → k < length xs → P (n + k, get_or xs k d)) → All P (enumerate_from n xs)
from-each P n [] each = All-nil P
from-each P n (x ∷ xs) each =
    let here : P (n + 0, x) = each 0 x (omega arith)
    in let same : n + 0 ≡ n = omega arith
    in All-cons P (n, x) (enumerate_from (n + 1) xs)
    (rw same at here)
    (from-each P (n + 1) xs (λ k d lt. let there : P (n + suc k, get_or xs k d) = each (suc k) d (omega arith) in let e : n + suc k ≡ (n + 1) + k = omega arith in rw e at there))

pub to-each : {X : Type 0} (P : ℕ × X → Type 0) (xs : List X) → ((k : ℕ) (d : X) → k < length xs → P (k, get_or xs k d)) → All P (enumerate_from 0 xs)
to-each P xs each = from-each P 0 xs (λ k d lt. let e : 0 + k ≡ k = omega arith in rw e (each k d lt))

-- what no item has isn't found
pub none-has : {X : Type 0} (p : X → Bool) (xs : List X) → list_any p xs ≡ false → All (λ x. p x ≡ false) xs
none-has p [] e = All-nil (λ x. p x ≡ false)
none-has p (x ∷ xs) e =
    elim (p x) as (λ b. p x ≡ b → (b || list_any p xs) ≡ false → All (λ y. p y ≡ false) (x ∷ xs)) [
      | true ↦ λ _ h. absurd (cc)
      | false ↦ λ is h. All-cons (λ y. p y ≡ false) x xs is (none-has p xs h)
    ] refl e

pub any-of-map : {X Y : Type 0} (p : Y → Bool) (f : X → Y) (xs : List X) → list_any p (map f xs) ≡ list_any (λ x. p (f x)) xs
any-of-map p f [] = refl
any-of-map p f (x ∷ xs) = ap (λ b. p (f x) || b) (any-of-map p f xs)

pub zip-of-maps : {X A B : Type 0} (R : A → B → Type 0) (f : X → A) (g : X → B) (xs : List X) → All (λ x. R (f x) (g x)) xs → AllZip R (map f xs) (map g xs)
zip-of-maps R f g [] all = tt
zip-of-maps R f g (x ∷ xs) all =
    (All-head (λ y. R (f y) (g y)) x xs all, zip-of-maps R f g xs (All-tail (λ y. R (f y) (g y)) x xs all))

one-if : (b : Bool) → b ≡ true → ◌≡◌ {A = ℕ} (cond b 1 0) 1
one-if true e = refl
one-if false e = absurd (cc)

-- two items that pass are counted
pub two-counted : {X : Type 0} (p : X → Bool) (xs : List X) (i j : ℕ) (d : X) → i < j → j < length xs → p (get_or xs i d) ≡ true → p (get_or xs j d) ≡ true → 1 < count_by p xs
two-counted p [] i j d lt in' here there = absurd (omega arith)
two-counted p (x ∷ xs) i zero d lt in' here there = absurd (omega arith)
two-counted p (x ∷ xs) zero (suc j) d lt in' here there =
    let whole : count_by p (x ∷ xs) ≡ cond (p x) 1 0 + count_by p xs = sum_by-cons (λ y. cond (p y) 1 0) x xs
    in let least : cond (p (get_or xs j d)) 1 0 ≤ count_by p xs = get_or-le-sum_by (λ y. cond (p y) 1 0) xs j d (omega arith)
    in let one : ◌≡◌ {A = ℕ} (cond (p x) 1 0) 1 = one-if (p x) here
    in let other : ◌≡◌ {A = ℕ} (cond (p (get_or xs j d)) 1 0) 1 = one-if (p (get_or xs j d)) there
    in omega arith
two-counted p (x ∷ xs) (suc i) (suc j) d lt in' here there =
    let whole : count_by p (x ∷ xs) ≡ cond (p x) 1 0 + count_by p xs = sum_by-cons (λ y. cond (p y) 1 0) x xs
    in let rest : 1 < count_by p xs = two-counted p xs i j d (omega arith) (omega arith) here there
    in omega arith
