-- A list with its numbers, item by item.
use Rattle.std.proofs.Common.{◌≡◌, ◌<◌, ◌≤◌, ◌+◌, ℕ, zero, suc, Bool, List, [], ◌∷◌, ◌++◌, length, map, get_or, take, refl, sym, subst, ap, ◌∙◌, append_assoc, arith, add-one}
use Rattle.std.proofs.lemmas.List.{map_more}
use Rattle.std.proofs.lemmas.List.Elements.{All-more}
use Rattle.std.specs.Prelude.{All}
use Rattle.std.proofs.lemmas.List.Sums.{prefix_len-le-length}
use Rattle.std.specs.List.{enumerate_from, prefix_len}

one_more : {X Y : Type 0} (f : ℕ × X → Y) (n : ℕ) (xs : List X) (i : ℕ) (d : X) → i < length xs → map f (enumerate_from n (take (suc i) xs)) ≡ map f (enumerate_from n (take i xs)) ++ f (n + i, get_or xs i d) ∷ []
one_more f n [] i d lt = absurd (omega arith)
one_more f n (x ∷ xs) zero d lt = let e : n + 0 ≡ n = omega arith in rw e refl
one_more f n (x ∷ xs) (suc i) d lt =
    let e : n + suc i ≡ (n + 1) + i = omega arith
    in rw e (ap (λ ys. f (n, x) ∷ ys) (one_more f (n + 1) xs i d (omega arith)))

-- one more item of a list whose items are made with their numbers
pub mapped_more : {X Y : Type 0} (f : ℕ × X → Y) (n : ℕ) (xs : List X) (i : ℕ) (d : X) → i < length xs → map f (enumerate_from n (take (i + 1) xs)) ≡ map f (enumerate_from n (take i xs)) ++ f (n + i, get_or xs i d) ∷ []
mapped_more f n xs i d lt = rw add-one (one_more f n xs i d lt)

-- the same where the item was made and pushed
pub pushed : {X Y : Type 0} (f : ℕ × X → Y) (n : ℕ) (xs : List X) (i : ℕ) (x : X) (k : ℕ) (y : Y) (front before after : List Y) → i < length xs → x ≡ get_or xs i x → k ≡ n + i → y ≡ f (k, x) → before ≡ front ++ map f (enumerate_from n (take i xs)) → after ≡ before ++ y ∷ [] → after ≡ front ++ map f (enumerate_from n (take (i + 1) xs))
pushed f n xs i x k y front before after lt is at made so grown =
    let same : y ≡ f (n + i, get_or xs i x) = made ∙ (ap (λ m. f (m, x)) at ∙ ap (λ z. f (n + i, z)) is)
    in rw (mapped_more f n xs i x lt)
    (grown ∙ (ap (λ zs. zs ++ y ∷ []) so ∙ (append_assoc front (map f (enumerate_from n (take i xs))) (y ∷ []) ∙ ap (λ z. front ++ (map f (enumerate_from n (take i xs)) ++ z ∷ [])) same)))

-- the same for a list whose items are made without their numbers, and of which each item has
-- something
pub both-pushed : {X Y : Type 0} (f : X → Y) (P : X → Type 0) (xs : List X) (i : ℕ) (x : X) (y : Y) (before after : List Y) → i < length xs → x ≡ get_or xs i x → y ≡ f x → P x → (before ≡ map f (take i xs)) × All P (take i xs) → after ≡ before ++ y ∷ [] → (after ≡ map f (take (i + 1) xs)) × All P (take (i + 1) xs)
both-pushed f P xs i x y before after lt at made here so grown = (
  grown ∙ (ap (λ zs. zs ++ y ∷ []) so.0 ∙ (ap (λ z. map f (take i xs) ++ z ∷ []) (made ∙ ap f at) ∙ sym (map_more f xs i x lt))),
  All-more P xs i x lt so.1 (subst P at here),
)

-- a number of a name is at most that after the last
pub number_within : {X : Type 0} (p : X → Bool) (xs : List X) → prefix_len p xs ≤ length xs
number_within p xs = prefix_len-le-length p xs
