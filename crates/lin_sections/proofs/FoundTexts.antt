-- What is found by its text among others.
use Rattle.std.proofs.Common.{◌≡◌, ◌≢◌, ◌∙◌, ◌<◌, ℕ, zero, suc, Bool, true, false, cond, List, [], ◌∷◌, ◌++◌, length, get_or, map, flat_map, refl, sym, ap, subst, arith}
use Rattle.std.specs.Prelude.{◌||◌, find, is_some, All, AllPairs, Contains, Option, Some, None}
use Rattle.std.specs.Str.{bytes_eq}
use Rattle.lin_cluster.proofs.NamesFound.{same-text, text-same}
use Rattle.lin_sections.specs.NewNames.{is_among}

abbrev pub find_by : {X : Type 0} → (X → List ℕ) → List ℕ → List X → Option X
find_by text q xs = find (λ x. bytes_eq (text x) q) xs

-- ---- what is contained

pub contained-later : {X : Type 0} (y : X) (xs : List X) (x : X) → Contains xs x → Contains (y ∷ xs) x
contained-later y xs x (k, lt, e) = (suc k, omega arith, e)

pub holds-of : {X : Type 0} (P : X → Type 0) (xs : List X) (x : X) → All P xs → Contains xs x → P x
holds-of P xs x all (k, lt, e) = subst P e (all k x lt)

same-at : {X : Type 0} (xs : List X) (k : ℕ) (d e : X) → k < length xs → get_or xs k d ≡ get_or xs k e
same-at [] k d e lt = absurd (omega arith)
same-at (x ∷ xs) zero d e lt = refl
same-at (x ∷ xs) (suc k) d e lt = same-at xs k d e (omega arith)

pub contained-at : {X : Type 0} (xs : List X) (k : ℕ) (d : X) → k < length xs → Contains xs (get_or xs k d)
contained-at xs k d lt = (k, lt, same-at xs k (get_or xs k d) d lt)

-- what is made of nothing
pub append-none : {X : Type 0} (xs ys : List X) → xs ++ ys ≡ [] → (xs ≡ []) × (ys ≡ [])
append-none [] ys e = (refl, e)
append-none (x ∷ xs) ys e = absurd cc

pub flat-none : {X Y : Type 0} (f : X → List Y) (xs : List X) (x : X) → flat_map f xs ≡ [] → Contains xs x → f x ≡ []
flat-none f [] x none (k, lt, e) = absurd (omega arith)
flat-none f (y ∷ xs) x none (zero, lt, e) = ap f (sym e) ∙ (append-none (f y) (flat_map f xs) none).0
flat-none f (y ∷ xs) x none (suc k, lt, e) = flat-none f xs x (append-none (f y) (flat_map f xs) none).1 (k, omega arith, e)

pub none-flat : {X Y : Type 0} (f : X → List Y) (xs : List X) → ((x : X) → Contains xs x → f x ≡ []) → flat_map f xs ≡ []
none-flat f [] none = refl
none-flat f (x ∷ xs) none =
    (λ j. none x (0, omega arith, refl) j ++ flat_map f xs) ∙ none-flat f xs (λ y c. none y (contained-later x xs y c))

-- ---- what is found

pub found-is : {X : Type 0} (text : X → List ℕ) (q : List ℕ) (xs : List X) (x : X) → find_by text q xs ≡ Some x → Contains xs x × (text x ≡ q)
found-is text q [] x e = absurd cc
found-is {X} text q (y ∷ xs) x e =
    elim (bytes_eq (text y) q) as (λ b. (bytes_eq (text y) q ≡ b) → cond b (Some y) (find_by text q xs) ≡ Some x → Contains (y ∷ xs) x × (text x ≡ q)) [
      | true ↦ λ is e. let same : y ≡ x = cc in ((0, omega arith, same), ap text (sym same) ∙ same-text (text y) q is)
      | false ↦ λ isnt e. let rest : Contains xs x × (text x ≡ q) = found-is text q xs x e in (contained-later y xs x rest.0, rest.1)
    ] refl e

pub found-among : {X : Type 0} (text : X → List ℕ) (q : List ℕ) (xs : List X) → is_some (find_by text q xs) ≡ is_among (map text xs) q
found-among text q [] = refl
found-among text q (x ∷ xs) =
    elim (bytes_eq (text x) q) as (λ b. is_some (cond b (Some x) (find_by text q xs)) ≡ (b || is_among (map text xs) q)) [
      | true ↦ refl
      | false ↦ found-among text q xs
    ]

or-true : (b : Bool) → (b || true) ≡ true
or-true true = refl
or-true false = refl

pub among-contained : {X : Type 0} (text : X → List ℕ) (xs : List X) (x : X) → Contains xs x → is_among (map text xs) (text x) ≡ true
among-contained text [] x (k, lt, e) = absurd (omega arith)
among-contained text (y ∷ xs) x (zero, lt, e) = ap (λ b. b || is_among (map text xs) (text x)) (text-same (text y) (text x) (ap text e))
among-contained text (y ∷ xs) x (suc k, lt, e) =
    ap (λ b. bytes_eq (text y) (text x) || b) (among-contained text xs x (k, omega arith, e)) ∙ or-true (bytes_eq (text y) (text x))

pub contained-among : {X : Type 0} (text : X → List ℕ) (q : List ℕ) (xs : List X) → is_among (map text xs) q ≡ true → (x : X) × Contains xs x × (text x ≡ q)
contained-among text q [] e = absurd cc
contained-among {X} text q (y ∷ xs) e =
    elim (bytes_eq (text y) q) as (λ b. (bytes_eq (text y) q ≡ b) → (b || is_among (map text xs) q) ≡ true → (x : X) × Contains (y ∷ xs) x × (text x ≡ q)) [
      | true ↦ λ is e. (y, (0, omega arith, refl), same-text (text y) q is)
      | false ↦ λ isnt e. let rest : (x : X) × Contains xs x × (text x ≡ q) = contained-among text q xs e in (rest.0, contained-later y xs rest.0 rest.1, rest.2)
    ] refl e

-- ---- texts that are apart

abbrev pub Apart : List (List ℕ) → Type 0
Apart [] = Unit {0}
Apart (t ∷ ts) = (is_among ts t ≡ false) × Apart ts

among-at : (ts : List (List ℕ)) (t : List ℕ) → is_among ts t ≡ true → Contains ts t
among-at [] t e = absurd cc
among-at (u ∷ ts) t e =
    elim (bytes_eq u t) as (λ b. (bytes_eq u t ≡ b) → (b || is_among ts t) ≡ true → Contains (u ∷ ts) t) [
      | true ↦ λ is e. (0, omega arith, same-text u t is)
      | false ↦ λ isnt e. contained-later u ts t (among-at ts t e)
    ] refl e

first-apart : (t : List ℕ) (ts : List (List ℕ)) → AllPairs (λ a b. a ≢ b) (t ∷ ts) → is_among ts t ≡ false
first-apart t ts all =
    elim (is_among ts t) as (λ b. (is_among ts t ≡ b) → b ≡ false) [
      | true ↦ λ e. let there : Contains ts t = among-at ts t e in absurd (all 0 (suc there.0) t (omega arith) (let lt = there.1 in omega arith) (sym there.2))
      | false ↦ λ e. refl
    ] refl

pub apart : (ts : List (List ℕ)) → AllPairs (λ a b. a ≢ b) ts → Apart ts
apart [] all = tt
apart (t ∷ ts) all = (first-apart t ts all, apart ts (λ i j d lt within. all (suc i) (suc j) d (omega arith) (omega arith)))

-- the only one with its text
pub only-found : {X : Type 0} (text : X → List ℕ) (xs : List X) (x : X) → Apart (map text xs) → Contains xs x → find_by text (text x) xs ≡ Some x
only-found text [] x all (k, lt, e) = absurd (omega arith)
only-found text (y ∷ xs) x all (zero, lt, e) =
    ap (λ b. cond b (Some y) (find_by text (text x) xs)) (text-same (text y) (text x) (ap text e)) ∙ ap Some e
only-found text (y ∷ xs) x all (suc k, lt, e) =
    let among : is_among (map text xs) (text x) ≡ true = among-contained text xs x (k, omega arith, e) in
    elim (bytes_eq (text y) (text x)) as (λ b. (bytes_eq (text y) (text x) ≡ b) → cond b (Some y) (find_by text (text x) xs) ≡ Some x) [
      | true ↦ λ is. absurd (let twice : is_among (map text xs) (text x) ≡ false = ap (is_among (map text xs)) (sym (same-text (text y) (text x) is)) ∙ all.0 in let no : true ≡ false = sym among ∙ twice in cc)
      | false ↦ λ isnt. only-found text xs x all.1 (k, omega arith, e)
    ] refl

-- ---- two lists in which the same is found

abbrev pub Match : {X : Type 0} → (X → X → Type 0) → Option X → Option X → Type 0
Match R None None = Unit {0}
Match R None (Some y) = ⊥
Match R (Some x) None = ⊥
Match R (Some x) (Some y) = R x y

pub matching : {X : Type 0} (R : X → X → Type 0) (text : X → List ℕ) (xs ys : List X)
    → ((x : X) → Contains xs x → (y : X) × (find_by text (text x) ys ≡ Some y) × R x y)
    → ((y : X) → Contains ys y → is_some (find_by text (text y) xs) ≡ true)
    → (q : List ℕ) → Match R (find_by text q xs) (find_by text q ys)
matching {X} R text xs ys old new q =
    elim (find_by text q xs) as (λ o. (find_by text q xs ≡ o) → Match R o (find_by text q ys)) [
      | Some x ↦ λ e.
          let is : Contains xs x × (text x ≡ q) = found-is text q xs x e in
          let other : (y : X) × (find_by text (text x) ys ≡ Some y) × R x y = old x is.0 in
          let there : find_by text q ys ≡ Some other.0 = ap (λ t. find_by text t ys) (sym is.1) ∙ other.1 in
          subst (λ p. Match R (Some x) p) (sym there) other.2
      | None ↦ λ e.
          elim (find_by text q ys) as (λ p. (find_by text q ys ≡ p) → Match R None p) [
            | Some y ↦ λ f.
                let is : Contains ys y × (text y ≡ q) = found-is text q ys y f in
                let some : is_some (find_by text q xs) ≡ true = ap (λ t. is_some (find_by text t xs)) (sym is.1) ∙ new y is.0 in
                let no : false ≡ true = ap is_some (sym e) ∙ some in cc
            | None ↦ λ f. tt
          ] refl
    ] refl

pub matched-old : {X : Type 0} (R : X → X → Type 0) (text : X → List ℕ) (xs ys : List X) → Apart (map text xs)
    → ((q : List ℕ) → Match R (find_by text q xs) (find_by text q ys))
    → (x : X) → Contains xs x → (y : X) × (find_by text (text x) ys ≡ Some y) × R x y
matched-old {X} R text xs ys all same x c =
    let here : Match R (Some x) (find_by text (text x) ys) = subst (λ o. Match R o (find_by text (text x) ys)) (only-found text xs x all c) (same (text x)) in
    elim (find_by text (text x) ys) as (λ p. Match R (Some x) p → (y : X) × (p ≡ Some y) × R x y) [
      | Some y ↦ λ r. (y, refl, r)
      | None ↦ λ r. absurd r
    ] here

pub matched-new : {X : Type 0} (R : X → X → Type 0) (text : X → List ℕ) (xs ys : List X)
    → ((q : List ℕ) → Match R (find_by text q xs) (find_by text q ys))
    → (y : X) → Contains ys y → is_some (find_by text (text y) xs) ≡ true
matched-new {X} R text xs ys same y c =
    let some : is_some (find_by text (text y) ys) ≡ true = found-among text (text y) ys ∙ among-contained text ys y c in
    elim (find_by text (text y) xs) as (λ o. Match R o (find_by text (text y) ys) → is_some o ≡ true) [
      | Some x ↦ λ r. refl
      | None ↦ elim (find_by text (text y) ys) as (λ p. is_some p ≡ true → Match R None p → false ≡ true) [
        | Some z ↦ λ s r. absurd r
        | None ↦ λ s r. s
      ] some
    ] (same (text y))
