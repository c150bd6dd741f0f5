-- Texts that are added to a line, of which no more than so many bytes are kept.
use Rattle.std.proofs.Common.{◌≡◌, ◌∙◌, ◌++◌, ◌≤◌, ℕ, zero, suc, List, [], ◌∷◌, ap, append_assoc, arith, length, refl, take}
use Rattle.std.proofs.lemmas.List.{length-take}

pub bounded : (n : ℕ) (xs : List ℕ) → length (take n xs) ≤ n
bounded n xs = let h = length-take n xs in omega (arith, h)

pub twice : (n : ℕ) (xs ys : List ℕ) → take n (take n xs ++ ys) ≡ take n (xs ++ ys)
twice zero xs ys = refl
twice (suc n) [] ys = refl
twice (suc n) (x ∷ xs) ys = ap (λ l. x ∷ l) (twice n xs ys)

-- two texts, the second one as it is cut
pub grown : (n : ℕ) (old s t u one two : List ℕ) → t ≡ u → one ≡ take n (old ++ s) → two ≡ take n (one ++ t) → two ≡ take n (old ++ (s ++ u))
grown n old s t u one two e h k =
    k ∙ ap (λ a. take n (a ++ t)) h ∙ twice n (old ++ s) t ∙ ap (take n) (append_assoc old s t) ∙ ap (λ a. take n (old ++ (s ++ a))) e
