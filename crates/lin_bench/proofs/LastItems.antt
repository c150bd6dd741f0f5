-- The last item of a list.
use Rattle.std.proofs.Common.{◌≡◌, ◌∙◌, ◌+◌, ◌-◌, ◌≤◌, ◌<◌, ℕ, suc, List, [], ◌∷◌, ◌++◌, Some, ap, arith, drop-cons, get_or, length, map, reverse, set, sym, take}
use Rattle.std.specs.Prelude.{slice_get}
use Rattle.std.proofs.lemmas.List.{drop_all, get_or-set_same, length-set, map-append, reverse-append, take-append-drop, take-set}
use Rattle.std.proofs.lemmas.Option.{get_or_from_slice_get, slice_get_within}

-- a list whose last index this is
pub at-end : {A : Type 0} (xs : List A) (i : ℕ) (d : A) → length xs ≡ i + 1 → xs ≡ take i xs ++ get_or xs i d ∷ []
at-end xs i d e =
    let lt : i < length xs = omega (arith, e) in
    sym (take-append-drop i xs)
    ∙ ap (λ l. take i xs ++ l) (drop-cons xs i d lt ∙ ap (λ l. get_or xs i d ∷ l) (drop_all (suc i) xs (omega (arith, e))))

pub last-is : {A : Type 0} (xs : List A) (b : A) → slice_get xs (length xs - 1) ≡ Some b → xs ≡ take (length xs - 1) xs ++ b ∷ []
last-is xs b h =
    let i = length xs - 1 in
    let within = slice_get_within xs i b h in
    at-end xs i b (omega (arith, within)) ∙ ap (λ y. take i xs ++ y ∷ []) (get_or_from_slice_get xs i b b h)

pub last-set : {A : Type 0} (xs : List A) (b : A) → 1 ≤ length xs → set xs (length xs - 1) b ≡ take (length xs - 1) xs ++ b ∷ []
last-set xs b h =
    let i = length xs - 1 in
    let same = length-set xs i b in
    at-end (set xs i b) i b (omega (arith, same, h))
    ∙ ap (λ l. l ++ get_or (set xs i b) i b ∷ []) (take-set xs i b)
    ∙ ap (λ y. take i xs ++ y ∷ []) (get_or-set_same xs i b b (omega (arith, h)))

pub last-first : {A B : Type 0} (f : A → B) (xs : List A) (b : A) → reverse (map f (xs ++ b ∷ [])) ≡ f b ∷ reverse (map f xs)
last-first f xs b = ap reverse (map-append f xs (b ∷ [])) ∙ reverse-append (map f xs) (f b ∷ [])
