-- A list of borrowed words.
use Rattle.std.proofs.Common.{◌≡◌, ◌||◌, Bool, true, false, List, [], ◌∷◌, map, refl}
use Rattle.std.specs.Borrow.{Bor}
use Rattle.std.specs.List.{list_any}

pub any_borrowed : {A : Type 0} (test : A → Bool) (xs : List (Bor A)) → list_any (λ x. test x.now) xs ≡ list_any test (map (λ x. x.now) xs)
any_borrowed test [] = refl
any_borrowed test (x ∷ xs) =
    elim (test x.now) as (λ b. (b || list_any (λ y. test y.now) xs) ≡ (b || list_any test (map (λ y. y.now) xs))) [
      | true ↦ refl
      | false ↦ any_borrowed test xs
    ]
