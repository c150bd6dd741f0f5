-- The pieces of a field between `$`, and names at the beginning of texts.
use Rattle.std.proofs.Common.{◌≡◌, ◌∙◌, ◌==◌, ◌<◌, ◌≤◌, ◌+◌, ◌-◌, ℕ, zero, suc, Bool, true, false, List, [], ◌∷◌, ◌++◌, refl, sym, ap, add-one, arith, drop, drop-cons, get_or, length, slice_index, take}
use Rattle.std.specs.List.{All, slice_split, take_while}
use Rattle.std.proofs.lemmas.Grind.{common_steps}
use Rattle.std.proofs.lemmas.List.{take-append-drop}
use Rattle.std.proofs.lemmas.List.Elements.{All-head, All-tail}
use Rattle.std.proofs.lemmas.List.Splits.{slice_split_at, slice_split_none}
use Rattle.std.proofs.lemmas.List.Sums.{take_while-cons}

abbrev is_dollar : ℕ → Bool
is_dollar b = b == 36

-- a list at an index
cut-at : (xs : List ℕ) (i : ℕ) → i < length xs → xs ≡ take i xs ++ (get_or xs i 0 ∷ drop (i + 1) xs)
cut-at xs i h = sym (take-append-drop i xs) ∙ ap (λ l. take i xs ++ l) (rw (add-one) (drop-cons xs i 0 h))

pub slice-rest : (xs : List ℕ) (n : ℕ) → take (length xs - n) (drop n xs) ≡ drop n xs
slice-rest xs n = grind (arith, common_steps)

pub pieces-one : (s : List ℕ) → All (λ x. (x == 36) ≡ false) s → slice_split is_dollar s ≡ s ∷ []
pieces-one s h = slice_split_none is_dollar s h

pub pieces-cut : (s : List ℕ) (n : ℕ) → n < length s → All (λ x. (x == 36) ≡ false) (take n s) → slice_index s n ≡ 36
    → slice_split is_dollar s ≡ take n s ∷ slice_split is_dollar (drop (n + 1) s)
pieces-cut s n lt clean e =
    let whole : s ≡ take n s ++ 36 ∷ drop (n + 1) s = cut-at s n lt ∙ ap (λ x. take n s ++ x ∷ drop (n + 1) s) e in
    ap (λ l. slice_split is_dollar l) whole ∙ slice_split_at is_dollar (take n s) 36 (drop (n + 1) s) clean refl

-- what stands before the first byte that fails
pub taken : (p : ℕ → Bool) (s : List ℕ) (n : ℕ) → n ≤ length s → All (λ x. p x ≡ true) (take n s) → (n < length s → p (slice_index s n) ≡ false) → take n s ≡ take_while p s
taken p [] n within clean ends = grind (arith, common_steps)
taken p (x ∷ xs) zero within clean ends = let no : p x ≡ false = ends (omega arith) in sym (take_while-cons p x xs ∙ rw no refl)
taken p (x ∷ xs) (suc n) within clean ends =
    let yes : p x ≡ true = All-head (λ x. p x ≡ true) x (take n xs) clean in
    ap (λ l. x ∷ l) (taken p xs n (omega (arith, within)) (All-tail (λ x. p x ≡ true) x (take n xs) clean) (λ lt. ends (omega (arith, lt)))) ∙ sym (take_while-cons p x xs ∙ rw yes refl)
