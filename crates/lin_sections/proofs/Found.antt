-- What is found by a text.
use Rattle.std.proofs.Common.{◌≡◌, ◌+◌, ℕ, suc, List, [], ◌∷◌, cond, length, map, not, refl, sym, ap, ◌∙◌, arith}
use Rattle.std.specs.Prelude.{Some, None, find, slice_get}
use Rattle.std.specs.List.{position_from, position_or_len}
use Rattle.std.specs.Str.{bytes_eq}
use Rattle.std.proofs.lemmas.List.Folds.{find_at}
use Rattle.std.proofs.lemmas.Option.{slice_get_past}
use Rattle.lin_cluster.proofs.NamesFound.{none_numbered, number_found}

-- a text of an item is at the item's place
pub mapped-position : {X : Type 0} (text : X → List ℕ) (q : List ℕ) (xs : List X)
    → position_or_len (λ t. bytes_eq t q) (map text xs) ≡ position_or_len (λ x. bytes_eq (text x) q) xs
mapped-position text q [] = refl
mapped-position text q (x ∷ xs) = ap (λ n. cond (not (bytes_eq (text x) q)) (1 + n) 0) (mapped-position text q xs)

pub mapped-length : {X Y : Type 0} (f : X → Y) (xs : List X) → length (map f xs) ≡ length xs
mapped-length f [] = refl
mapped-length f (x ∷ xs) = ap (λ n. suc n) (mapped-length f xs)

pub found : {X : Type 0} (text : X → List ℕ) (q : List ℕ) (xs : List X) (place : ℕ)
    → Some place ≡ position_from (λ t. bytes_eq t q) 0 (map text xs)
    → slice_get xs place ≡ find (λ x. bytes_eq (text x) q) xs
found text q xs place e =
    ap (slice_get xs) (number_found (λ t. bytes_eq t q) (map text xs) place e ∙ mapped-position text q xs)
    ∙ sym (find_at (λ x. bytes_eq (text x) q) xs)

pub not-found : {X : Type 0} (text : X → List ℕ) (q : List ℕ) (xs : List X)
    → None ≡ position_from (λ t. bytes_eq t q) 0 (map text xs)
    → None ≡ find (λ x. bytes_eq (text x) q) xs
not-found text q xs e =
    let past : length xs ≡ position_or_len (λ x. bytes_eq (text x) q) xs =
    sym (mapped-length text xs) ∙ (none_numbered (λ t. bytes_eq t q) (map text xs) e ∙ mapped-position text q xs) in
    sym (find_at (λ x. bytes_eq (text x) q) xs ∙ slice_get_past xs (position_or_len (λ x. bytes_eq (text x) q) xs) (omega arith))
