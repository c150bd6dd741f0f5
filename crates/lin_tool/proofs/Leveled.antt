-- What is reported, one finding or warning after the other.
use Rattle.std.proofs.Common.{◌≡◌, Bool, true, false, List, [], ◌∷◌, ◌++◌, refl, ap, filter, cond}
use Rattle.std.specs.Prelude.{◌&&◌, ◌||◌, if◌then◌else◌}
use Rattle.std.specs.List.{flat_map, list_any}

-- what is made of what stays of a list
pub each_kept : {A B : Type 0} (p : A → Bool) (f : A → List B) (xs : List A)
    → flat_map (λ x. if p x then f x else []) xs ≡ flat_map f (filter p xs)
each_kept p f [] = refl
each_kept p f (x ∷ xs) =
    elim (p x) as (λ b. (if b then f x else []) ++ flat_map (λ y. if p y then f y else []) xs ≡ flat_map f (cond b (x ∷ filter p xs) (filter p xs))) [
      | true ↦ ap (λ ys. f x ++ ys) (each_kept p f xs)
      | false ↦ each_kept p f xs
    ]

-- one of what stays of a list
pub any_kept : {A : Type 0} (p q : A → Bool) (xs : List A) → list_any (λ x. p x && q x) xs ≡ list_any q (filter p xs)
any_kept p q [] = refl
any_kept p q (x ∷ xs) =
    elim (p x) as (λ b. ((b && q x) || list_any (λ y. p y && q y) xs) ≡ list_any q (cond b (x ∷ filter p xs) (filter p xs))) [
      | true ↦ ap (λ b. q x || b) (any_kept p q xs)
      | false ↦ any_kept p q xs
    ]
