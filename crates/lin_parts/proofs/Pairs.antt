-- Facts on each two items of a list.
use Rattle.std.proofs.Common.{◌≡◌, ◌↔◌, zero, suc, Bool, true, false, List, [], ◌∷◌, ◌++◌, map, arith, sym, subst, ◌∙◌}
use Rattle.std.specs.Prelude.{All, AllPairs, IsTrue}
use Rattle.std.proofs.lemmas.List.Elements.{All-nil, All-cons, All-head, All-tail, All-append, All-map}

pub pairs-cons : {X : Type 0} (R : X → X → Type 0) (x : X) (xs : List X) → All (R x) xs → AllPairs R xs → AllPairs R (x ∷ xs)
pairs-cons R x xs first rest zero zero d lt in' = absurd (omega arith)
pairs-cons R x xs first rest zero (suc j) d lt in' = first j d (omega arith)
pairs-cons R x xs first rest (suc i) zero d lt in' = absurd (omega arith)
pairs-cons R x xs first rest (suc i) (suc j) d lt in' = rest i j d (omega arith) (omega arith)

pub pairs-first : {X : Type 0} (R : X → X → Type 0) (x : X) (xs : List X) → AllPairs R (x ∷ xs) → All (R x) xs
pairs-first R x xs all j d in' = all 0 (suc j) d (omega arith) (omega arith)

pub pairs-rest : {X : Type 0} (R : X → X → Type 0) (x : X) (xs : List X) → AllPairs R (x ∷ xs) → AllPairs R xs
pairs-rest R x xs all i j d lt in' = all (suc i) (suc j) d (omega arith) (omega arith)

-- where the first item is so beside each other one, the rest is left to test
pub pairs-step : {X : Type 0} (R : X → X → Type 0) (ys xs : List X) (x : X) (rest : List X) (b : Bool) → xs ≡ x ∷ rest → (IsTrue b ↔ All (R x) rest) → b ≡ true → (AllPairs R ys ↔ AllPairs R xs) → (AllPairs R ys ↔ AllPairs R rest)
pairs-step R ys xs x rest b is first passes so = (
  λ all. pairs-rest R x rest (subst (λ zs. AllPairs R zs) is (so.0 all)),
  λ all. so.1 (subst (λ zs. AllPairs R zs) (sym is) (pairs-cons R x rest (first.0 passes) all)),
)

-- where it isn't, the test has failed
pub pairs-fail : {X : Type 0} (R : X → X → Type 0) (ys xs : List X) (x : X) (rest : List X) (b : Bool) → xs ≡ x ∷ rest → (IsTrue b ↔ All (R x) rest) → b ≡ false → (AllPairs R ys ↔ AllPairs R xs) → (IsTrue false ↔ AllPairs R ys)
pairs-fail R ys xs x rest b is first fails so = (
  λ e. absurd (let h : false ≡ true = e in cc),
  λ all. sym fails ∙ first.1 (pairs-first R x rest (subst (λ zs. AllPairs R zs) is (so.0 all))),
)

pub pairs-none : {X : Type 0} (R : X → X → Type 0) → AllPairs R []
pairs-none R i j d lt in' = absurd (omega arith)

pub all-front : {X : Type 0} (P : X → Type 0) (xs ys : List X) → All P (xs ++ ys) → All P xs
all-front P [] ys all = All-nil P
all-front P (x ∷ xs) ys all = All-cons P x xs (All-head P x (xs ++ ys) all) (all-front P xs ys (All-tail P x (xs ++ ys) all))

pub all-back : {X : Type 0} (P : X → Type 0) (xs ys : List X) → All P (xs ++ ys) → All P ys
all-back P [] ys all = all
all-back P (x ∷ xs) ys all = all-back P xs ys (All-tail P x (xs ++ ys) all)

pub all-of-map : {X Y : Type 0} (P : X → Type 0) (f : Y → X) (ys : List Y) → All P (map f ys) → All (λ y. P (f y)) ys
all-of-map P f [] all = All-nil (λ y. P (f y))
all-of-map P f (y ∷ ys) all = All-cons (λ z. P (f z)) y ys (All-head P (f y) (map f ys) all) (all-of-map P f ys (All-tail P (f y) (map f ys) all))

pub pairs-map : {X Y : Type 0} (R : X → X → Type 0) (f : Y → X) (ys : List Y) → AllPairs (λ a b. R (f a) (f b)) ys → AllPairs R (map f ys)
pairs-map R f [] all = pairs-none R
pairs-map R f (y ∷ ys) all =
    let S = λ (a b : _). R (f a) (f b)
    in pairs-cons R (f y) (map f ys) (All-map (R (f y)) f ys (pairs-first S y ys all)) (pairs-map R f ys (pairs-rest S y ys all))

pub pairs-of-map : {X Y : Type 0} (R : X → X → Type 0) (f : Y → X) (ys : List Y) → AllPairs R (map f ys) → AllPairs (λ a b. R (f a) (f b)) ys
pairs-of-map R f [] all = pairs-none (λ a b. R (f a) (f b))
pairs-of-map R f (y ∷ ys) all =
    pairs-cons (λ a b. R (f a) (f b)) y ys (all-of-map (R (f y)) f ys (pairs-first R (f y) (map f ys) all)) (pairs-of-map R f ys (pairs-rest R (f y) (map f ys) all))

pub pairs-append : {X : Type 0} (R : X → X → Type 0) (xs ys : List X) → AllPairs R xs → AllPairs R ys → All (λ x. All (R x) ys) xs → AllPairs R (xs ++ ys)
pairs-append R [] ys front back cross = back
pairs-append R (x ∷ xs) ys front back cross =
    pairs-cons R x (xs ++ ys)
    (All-append (R x) xs ys (pairs-first R x xs front) (All-head (λ z. All (R z) ys) x xs cross))
    (pairs-append R xs ys (pairs-rest R x xs front) back (All-tail (λ z. All (R z) ys) x xs cross))

pub pairs-front : {X : Type 0} (R : X → X → Type 0) (xs ys : List X) → AllPairs R (xs ++ ys) → AllPairs R xs
pairs-front R [] ys all = pairs-none R
pairs-front R (x ∷ xs) ys all = pairs-cons R x xs (all-front (R x) xs ys (pairs-first R x (xs ++ ys) all)) (pairs-front R xs ys (pairs-rest R x (xs ++ ys) all))

pub pairs-back : {X : Type 0} (R : X → X → Type 0) (xs ys : List X) → AllPairs R (xs ++ ys) → AllPairs R ys
pairs-back R [] ys all = all
pairs-back R (x ∷ xs) ys all = pairs-back R xs ys (pairs-rest R x (xs ++ ys) all)

pub pairs-cross : {X : Type 0} (R : X → X → Type 0) (xs ys : List X) → AllPairs R (xs ++ ys) → All (λ x. All (R x) ys) xs
pairs-cross R [] ys all = All-nil (λ z. All (R z) ys)
pairs-cross R (x ∷ xs) ys all = All-cons (λ z. All (R z) ys) x xs (all-back (R x) xs ys (pairs-first R x (xs ++ ys) all)) (pairs-cross R xs ys (pairs-rest R x (xs ++ ys) all))
